-- The call `compare`.
pub mod laws
