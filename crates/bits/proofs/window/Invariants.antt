-- `bits::window` meets its contract. The loop's invariant: the number is that of the bytes passed.
-- Assumes nothing.
use mathlib.Core.Path.{◌≡◌}
use lib.ListN.{take}
use Rattle.laws.specs.Bits.{number_of, bits_of_bytes}
use Rattle.bits.proofs.window.Given as goal

abbrev pub invariant-loop-byte : goal.invariant-loop-byte
invariant-loop-byte l = l.number ≡ number_of (bits_of_bytes (take l.byte-index l.bytes))
