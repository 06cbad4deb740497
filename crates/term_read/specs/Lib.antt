-- A term's text, read into its coded form.
pub mod Read
pub mod laws
