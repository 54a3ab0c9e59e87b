-- What the code chooses to be coded of a frame is what `coded_at` says.
pub mod Chosen
