-- The joined samples, block by block, and the rows of samples that are picked by the join flags.
pub mod Joined
mod Picked
