-- The remainder by P without a division.
pub mod Folding
