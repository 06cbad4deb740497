pub mod Chunks
pub mod Made
pub mod Units
