-- The refusal record, as definitions speak of it: the source's own Side, Fault and Refusal.
pub mod Refusal
