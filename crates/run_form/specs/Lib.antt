-- The words of a form's run.
pub mod Forms
pub mod laws
