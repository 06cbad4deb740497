-- When two forms and the tables suit the product: what a reader must believe stands in Fit and Tables; what follows from it in proofs/laws.
pub mod Fit
pub mod Tables
pub mod laws
