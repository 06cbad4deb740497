pub mod laws
pub mod Theorems
pub mod Clauses
