-- Judging the text of a form, node by node.
pub mod Normal
pub mod laws
