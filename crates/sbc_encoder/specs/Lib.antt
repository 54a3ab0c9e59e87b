pub mod Encode
pub mod Told
