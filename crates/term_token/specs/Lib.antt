pub mod Steps
pub mod Tokens
pub mod Views
