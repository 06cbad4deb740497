pub mod Negate
pub mod Theorems
