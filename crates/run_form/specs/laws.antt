pub mod Products
pub mod Powers
