pub mod Remainder
pub mod Theorems
