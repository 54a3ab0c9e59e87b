pub mod Refusals
pub mod TwoLanguages
