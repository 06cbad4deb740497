-- The call `judge`. Its reply is defined in crates/reply.
pub mod Judge
pub mod laws
