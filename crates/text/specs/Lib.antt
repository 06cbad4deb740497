-- The texts of terms and forms. What a reader must believe stands in definitions/; what a program may keep instead in program/; document
-- 01's starred cases in Cases. What follows from the definitions is proved in crates/text_laws.
pub mod definitions
pub mod program
pub mod Cases
