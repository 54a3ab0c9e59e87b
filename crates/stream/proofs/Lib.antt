-- What keeping and reading on do to what a buffer holds, and how the steps of a run go together.
pub mod Kept
pub mod Runs
