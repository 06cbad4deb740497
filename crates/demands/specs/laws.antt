pub mod Given
pub mod Exactly
