pub mod Equations
pub mod Sums
mod Lefts
