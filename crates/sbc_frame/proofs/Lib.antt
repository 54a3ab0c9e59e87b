-- Laws of a frame: the bits of its values, where its fields lie, the frame that is written, what is read from a frame,
-- coding one, block by block; and of the arrays that the code holds it in.
pub mod Sizes
pub mod Widths
pub mod Positions
pub mod Written
pub mod Placed
pub mod Reading
pub mod Coding
pub mod ByBlock
pub mod Columns
pub mod Flagged
pub mod Rows
