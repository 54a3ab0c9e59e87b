-- The rows that the code folds are those of the definition.
pub mod Rows
