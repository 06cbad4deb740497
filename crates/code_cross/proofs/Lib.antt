pub mod Products
pub mod Theorems
