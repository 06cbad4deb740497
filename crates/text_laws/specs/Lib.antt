-- What follows from the definitions of crates/text, with its proof.
pub mod laws
