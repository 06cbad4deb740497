pub mod Fields
pub mod Checked
pub mod Meaning
pub mod Lines
