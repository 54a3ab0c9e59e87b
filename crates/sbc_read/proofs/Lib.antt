-- What the code reads of a frame is what `unpack` reads; the rows and the arrays that it is read into.
mod Rows
mod Starts
mod Joined
mod Received
pub mod Arrays
