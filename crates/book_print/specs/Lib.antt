-- Printing a book. What is printed is defined in crates/book.
pub mod Print
pub mod laws
