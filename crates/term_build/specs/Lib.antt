-- The run of a term's polynomial, from the words of its tree.
pub mod Terms
pub mod Build
pub mod laws
