pub mod Sized
pub mod Leaves
pub mod Nodes
pub mod Two
pub mod Plain
