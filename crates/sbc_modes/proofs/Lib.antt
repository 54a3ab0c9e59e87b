-- Laws of the modes and the allocations.
pub mod Numbers
