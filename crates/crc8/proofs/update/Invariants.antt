-- `crc8::update` meets its contract. The invariant: the bytes that are left take the register to the result.
-- Assumes nothing.
use mathlib.Core.Path.{◌≡◌}
use lib.ListN.{drop}
use Rattle.laws.specs.Bits.{bits_of_bytes}
use Rattle.crc8.specs.Checksum.{crc_bits}
use Rattle.crc8.proofs.update.Given as goal

abbrev pub invariant-loop-byte : goal.invariant-loop-byte
invariant-loop-byte l = crc_bits l.register (bits_of_bytes (drop l.byte-index l.bytes)) ≡ crc_bits l.crc (bits_of_bytes l.bytes)
