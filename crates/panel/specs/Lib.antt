-- The answers that cross to C.
pub mod Panel
pub mod Laws
