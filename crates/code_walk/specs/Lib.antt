pub mod Points
pub mod Shapes
pub mod Carrying
pub mod laws
