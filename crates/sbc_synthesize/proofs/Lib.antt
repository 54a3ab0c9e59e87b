-- The sums that the code takes and rounds and the ring that it reads are those of the definition.
mod Samples
mod Rounding
mod Blocks
