pub mod Measure
pub mod Cuts
pub mod Made
pub mod Limits
pub mod Nodes
