-- The call `form`. Its reply is defined in crates/reply.
pub mod laws
