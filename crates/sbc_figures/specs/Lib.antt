pub mod Distance
pub mod Figures
