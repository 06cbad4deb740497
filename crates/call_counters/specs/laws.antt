pub mod Widths
pub mod Whole
pub mod Theorems
