-- What `judge`, `negate`, `raise` and `formremainder` are answered with.
pub mod Form
pub mod Laws
