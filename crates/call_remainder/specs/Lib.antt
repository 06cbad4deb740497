-- The call `remainder`. Its reply is defined in crates/reply.
pub mod laws
