pub mod Least
pub mod Bounds
pub mod Points
pub mod Terms
