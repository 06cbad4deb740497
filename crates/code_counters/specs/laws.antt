pub mod Spread
pub mod Reading
pub mod Multiples
pub mod Counters
