pub mod Keys
pub mod Orders
