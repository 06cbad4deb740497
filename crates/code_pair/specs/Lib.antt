-- Two forms side by side in a table.
pub mod Pair
