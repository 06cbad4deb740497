pub mod Wrote
pub mod Texts
pub mod Sizes
pub mod Integers
