-- What `compare` and `counters` are answered with.
pub mod Compare
pub mod Laws
