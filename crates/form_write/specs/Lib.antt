-- Writing the text of a coded form. What the contracts say stands in Written; what follows in laws/.
pub mod Write
pub mod laws
