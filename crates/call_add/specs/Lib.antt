-- The call `add`. Its reply is defined in crates/reply.
pub mod laws
