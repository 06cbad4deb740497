-- The fields of a request line.
pub mod Fields
pub mod Walk
pub mod Numbers
pub mod Theorems
