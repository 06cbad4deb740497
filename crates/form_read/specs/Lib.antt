-- The text of a form, with all its refusals.
pub mod Read
pub mod laws
