pub mod Tabs
pub mod Theorems
