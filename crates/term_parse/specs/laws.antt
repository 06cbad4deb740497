pub mod Steps
pub mod Parts
pub mod Operands
pub mod Seconds
pub mod Powers
pub mod Whole
pub mod Theorems
