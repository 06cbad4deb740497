-- Document 01's texts, and those of requests 101 and 106, as definitions. Read in this order.
pub mod Bytes
-- terms: what they are in each dialect, how their texts are read and refused
pub mod Integers
pub mod Tree
pub mod Answer
pub mod Reading
pub mod Limits
-- and what that means, said without reading
pub mod Meaning
-- forms, likewise
pub mod FormReading
pub mod FormMeaning
