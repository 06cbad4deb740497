pub mod Steps
pub mod Numbers
pub mod Parts
pub mod Forms
pub mod Theorems
