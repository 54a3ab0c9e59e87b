-- Laws of a decoder as numbers: what a state stands for and back, the calls on a state, and that a refusal leaves all unchanged.
pub mod Decoding
