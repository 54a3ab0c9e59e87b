pub mod Held
pub mod Kept
pub mod Runs
pub mod Stops
