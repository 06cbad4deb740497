-- What a request line is answered with.
pub mod Answer
pub mod Laws
