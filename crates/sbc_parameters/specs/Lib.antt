pub mod Parameters
pub mod Sizes
pub mod Header
