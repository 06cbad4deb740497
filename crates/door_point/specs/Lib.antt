-- What a call at a point answers.
pub mod Point
pub mod laws
