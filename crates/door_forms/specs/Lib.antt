-- What the operations on forms share.
pub mod Forms
pub mod Operation
pub mod laws
