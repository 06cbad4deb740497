pub mod Widths
pub mod Good
pub mod Sizes
pub mod Codes
pub mod Parts
