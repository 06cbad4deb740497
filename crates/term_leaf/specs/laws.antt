pub mod Tokens
pub mod Integers
pub mod Words
pub mod Answers
pub mod Theorems
