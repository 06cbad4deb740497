-- The lines that answer requests.
pub mod Reply
pub mod laws
