pub mod First
pub mod laws
