-- Documents 000 and 01, as definitions. Read in this order.
pub mod Rings
pub mod Form
pub mod Term
pub mod Measures
pub mod Points
