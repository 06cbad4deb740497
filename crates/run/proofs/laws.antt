pub mod Orders
pub mod Merging
pub mod Carrying
pub mod Keys
pub mod Coefficients
pub mod Forms
pub mod Operations
pub mod Lengths
