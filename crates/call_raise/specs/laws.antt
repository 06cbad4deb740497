pub mod Raise
pub mod Theorems
