-- The search for the first point at which a form is not 0. What the contracts say stands in Points; what follows in laws/.
pub mod Points
pub mod laws
