-- Laws that the codec's crates share.
pub mod Tests
pub mod Cases
pub mod Lists
pub mod Parts
pub mod Bits
pub mod Table
pub mod Ring
pub mod Difference
pub mod Abs
pub mod Floor
pub mod Clamps
pub mod Sums
pub mod Arrays
pub mod Linear
pub mod Answers
pub mod Made
