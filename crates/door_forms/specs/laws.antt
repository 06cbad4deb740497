pub mod Results
pub mod Limits
pub mod Forms
pub mod Two
pub mod Operations
pub mod Theorems
