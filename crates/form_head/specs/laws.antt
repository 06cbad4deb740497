pub mod Digits
pub mod Heads
pub mod Parts
pub mod Theorems
