-- The call `form_remainder`. Its reply is defined in crates/reply.
pub mod laws
