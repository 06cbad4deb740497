pub mod Fields
pub mod Bodies
pub mod Entries
pub mod Whole
pub mod Theorems
