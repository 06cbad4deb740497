-- The dialects of terms, as definitions speak of them: values of the source's own Dialect.
pub mod Dialects
