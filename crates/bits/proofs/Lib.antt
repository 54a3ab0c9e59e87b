-- Laws of bits in bytes: a field read through a window of bytes, written byte by byte, read back; what it means to be inside, and the
-- answers. `bitstream` cites Answers; the crates of a frame cite Windows.
pub mod Windows
pub mod Bytewise
pub mod RoundTrip
pub mod Ends
pub mod Answers
