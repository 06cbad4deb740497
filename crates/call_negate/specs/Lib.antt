-- The call `negate`. Its reply is defined in crates/reply.
pub mod laws
