-- Read in this order.
pub mod Reply
pub mod Calls
