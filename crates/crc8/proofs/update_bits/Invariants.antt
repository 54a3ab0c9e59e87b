-- `crc8::update_bits` meets its contract. The invariant: the bits that are left take the register to the result.
-- Assumes nothing.
use Prim.Native.Nat.{◌-◌}
use mathlib.Core.Path.{◌≡◌}
use lib.ListN.{take}
use Rattle.laws.specs.Bits.{bits_of}
use Rattle.crc8.specs.Checksum.{crc_bits}
use Rattle.crc8.proofs.update_bits.Given as goal

abbrev pub invariant-loop-i : goal.invariant-loop-i
invariant-loop-i l =
    crc_bits l.register (take (l.count - l.i) (bits_of (8 - l.i) l.byte)) ≡ crc_bits l.crc (take l.count (bits_of 8 l.byte))
