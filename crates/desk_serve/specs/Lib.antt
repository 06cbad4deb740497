-- What the answers to request lines share.
pub mod Serve
pub mod Laws
pub mod Texts
