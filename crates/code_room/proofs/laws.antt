pub mod Lists
pub mod Parts
pub mod Fit
pub mod Summands
pub mod Tables
pub mod Equations
pub mod Theorems
