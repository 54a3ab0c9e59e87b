-- Laws of the loudness offsets and of the needs. For `sbc_allocation`: a need and 32 is a natural number.
pub mod Bounds
