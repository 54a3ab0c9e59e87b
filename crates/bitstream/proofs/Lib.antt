-- The answers of the reader and of the writer.
pub mod Answers
