-- The formula book: what it is, how it is refused, and what the printer writes of it. Document 01's case B and others stand in Cases.
pub mod definitions
pub mod Cases
