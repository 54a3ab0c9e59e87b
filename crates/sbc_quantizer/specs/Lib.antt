pub mod Quantizing
pub mod Dequantizing
