pub mod Decode
pub mod Seek
pub mod Told
