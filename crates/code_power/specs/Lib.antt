-- Powers of a coded form: what a reader must believe stands in Raise; what follows from it in laws/.
pub mod Raise
pub mod laws
