pub mod Answer
pub mod Found
pub mod laws
