pub mod Allocate
pub mod Shares
pub mod Entries
