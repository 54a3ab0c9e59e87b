pub mod Decoder
