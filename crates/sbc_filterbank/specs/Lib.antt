pub mod Subbands
pub mod Analysis
pub mod Synthesis
pub mod Ring
pub mod Matrices
