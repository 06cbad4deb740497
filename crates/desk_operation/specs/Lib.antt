-- What `add` and `multiply` are answered with.
pub mod Operation
pub mod Laws
