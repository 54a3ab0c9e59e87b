-- Laws of what a call gives back, and of how many frames fit into its buffers.
pub mod Fitting
pub mod Answering
