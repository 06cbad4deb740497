-- Sparse Horner forms. What a reader must believe stands in definitions/; what the definitions rest on, and the first point, in laws/;
-- examples in Cases. What is proved of it, statement by statement, stands in proofs/Theorems and proofs/Clauses; the proofs in proofs/laws.
pub mod definitions
pub mod laws
pub mod Cases
