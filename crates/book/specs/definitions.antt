-- Read in this order.
pub mod Meaning
pub mod Book
