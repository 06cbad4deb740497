-- The code of a term: what it is (Coding), what it shows (Codes; that it can be read back, in proofs/), and cases that compute.
pub mod Coding
pub mod Codes
pub mod Cases
pub mod Shapes
pub mod Heads
