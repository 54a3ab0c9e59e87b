pub mod Choice
pub mod Answers
pub mod Lists
pub mod Bits
pub mod Integers
pub mod Sums
