-- That the printer's page is what its answer tells.
pub mod Shown
