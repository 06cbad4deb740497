pub mod Leaf
pub mod laws
