pub mod Shapes
pub mod Carrying
