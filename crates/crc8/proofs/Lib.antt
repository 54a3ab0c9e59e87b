-- Laws of the checksum's definitions.
pub mod Registers
