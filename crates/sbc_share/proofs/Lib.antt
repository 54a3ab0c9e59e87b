-- Laws of the shares. For `sbc_allocation`: `Sharing`, the lengths, bounds and sums of the shares of a list of needs,
-- which the share theorem rests on. The others are for this crate alone.
mod Integers
pub mod Sharing
mod Levels
mod Loops
mod Padded
