pub mod Points
pub mod Sides
pub mod Verdict
pub mod Sized
pub mod Pairs
pub mod Theorems
