pub mod Values
pub mod Residues
pub mod Whole
pub mod Theorems
