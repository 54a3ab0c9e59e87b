pub mod Share
pub mod Raised
