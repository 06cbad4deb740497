pub mod Walk
pub mod Sound
pub mod Entry
pub mod Whole
