pub mod Form
pub mod Theorems
