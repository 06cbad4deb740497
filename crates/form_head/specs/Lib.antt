-- What a form's text begins with.
pub mod Heads
pub mod laws
