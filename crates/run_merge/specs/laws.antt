pub mod Steps
pub mod Coding
pub mod Products
pub mod Room
pub mod Theorems
