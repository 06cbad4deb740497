pub mod Normal
pub mod Theorems
