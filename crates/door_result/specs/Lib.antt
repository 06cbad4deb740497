-- What a call with a result text answers.
pub mod Result
pub mod laws
