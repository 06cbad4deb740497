-- What proofs of functions with `?` and `map_err` cite.
pub mod Exits
