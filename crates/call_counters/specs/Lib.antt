-- The call `counters`. Its reply is defined in crates/reply.
pub mod Counters
pub mod laws
