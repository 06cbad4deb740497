-- The call `compare`. Its reply is defined in crates/reply.
pub mod Compare
pub mod laws
