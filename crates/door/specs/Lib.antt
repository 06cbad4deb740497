-- What the calls begin and end with.
pub mod Door
pub mod laws
