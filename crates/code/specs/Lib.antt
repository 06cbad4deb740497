-- Coded forms: what a reader must believe stands in Widths, Coding and Operations; what follows from it in laws/.
pub mod Widths
pub mod Coding
pub mod Operations
pub mod Lengths
pub mod Heads
pub mod laws
