-- Laws of the allocation. For other crates: `Rows`, the lengths, bounds and independence of the rows, and `Groups`, the
-- share theorem.
pub mod Rows
pub mod Groups
mod Tables
