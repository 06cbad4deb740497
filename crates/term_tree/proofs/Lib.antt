pub mod Codes
pub mod Shapes
pub mod Heads
