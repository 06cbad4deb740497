-- Runs in words, side by side in a table. What a reader must believe stands in Stack; what follows from it in laws/.
pub mod Stack
pub mod laws
