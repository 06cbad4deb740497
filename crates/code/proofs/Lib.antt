pub mod Lists
pub mod Regions
pub mod Making
pub mod Placed
pub mod Theorems
