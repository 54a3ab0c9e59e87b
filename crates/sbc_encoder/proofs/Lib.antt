-- Laws of the encoder's call: the frames that it writes, one after the other, and its refusals.
pub mod Writing
pub mod Framing
pub mod Refusals
