pub mod Under
pub mod Sums
pub mod Products
pub mod Powers
pub mod Code
