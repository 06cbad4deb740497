pub mod Reading
pub mod Terms
pub mod Building
pub mod Theorems
