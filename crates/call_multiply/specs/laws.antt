pub mod Multiply
pub mod Theorems
