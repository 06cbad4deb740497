pub mod Negative
pub mod Evaluation
pub mod Carrying
pub mod Theorems
