-- A frame as the code writes it.
mod Headed
pub mod Parts
