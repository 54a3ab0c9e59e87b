-- Laws of the filterbanks, and of the sums and the numbers that the code of both has.
pub mod Bands
pub mod Lengths
pub mod Ring
pub mod Bounds
pub mod Words
pub mod Terms
pub mod ByChannel
