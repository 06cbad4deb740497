-- Reading a book. What is read is defined in crates/book.
pub mod Heads
pub mod laws
