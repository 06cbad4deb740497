-- What the printer writes for what it reads.
pub mod Printer
