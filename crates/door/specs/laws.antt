pub mod Rows
pub mod Door
pub mod Numbers
pub mod Ending
pub mod Theorems
