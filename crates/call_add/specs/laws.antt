pub mod Add
pub mod Theorems
