-- Two terms, read one after the other.
pub mod Terms
pub mod laws
