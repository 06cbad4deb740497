-- What `form` and `remainder` are answered with.
pub mod Term
pub mod Laws
