-- Bits flushed by bytes, and lists of fields.
mod Flushing
pub mod Fields
