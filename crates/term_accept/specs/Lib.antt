-- A term's text read and measured.
pub mod Accepted
pub mod Ordinary
pub mod Theorems
