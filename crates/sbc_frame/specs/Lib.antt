pub mod Fields
pub mod Layout
pub mod Channels
pub mod Encoding
pub mod Decoding
pub mod Arrays
