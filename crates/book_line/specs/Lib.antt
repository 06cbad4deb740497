-- The printer's lines. What the contracts say stands in Lines; that these are the lines of crates/book, in laws/.
pub mod Lines
pub mod laws
