-- The text of a form: what its passes find.
pub mod Measure
pub mod Answer
pub mod Build
pub mod laws
