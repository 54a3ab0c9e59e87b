-- Samples and their bytes in the library's words.
pub mod Bytes
