-- Numbers in a line: what is written stands in Line, what follows from it in laws/.
pub mod Line
pub mod laws
