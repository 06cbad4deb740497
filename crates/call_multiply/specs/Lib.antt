-- The call `multiply`. Its reply is defined in crates/reply.
pub mod laws
