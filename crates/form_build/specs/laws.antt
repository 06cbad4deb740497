pub mod Measure
pub mod Build
pub mod Accepted
pub mod Answer
pub mod Answered
pub mod Theorems
