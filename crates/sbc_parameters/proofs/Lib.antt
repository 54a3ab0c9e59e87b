-- Laws of the parameters' definitions.
pub mod Numbers
pub mod Accepted
pub mod Parsing
