-- The call `raise`. Its reply is defined in crates/reply.
pub mod laws
