-- `crc8::update_bits` meets its contract. The invariant: the bits that are left take the register to the result.
-- Assumes nothing.
use Prim.Native.Nat.{ℕ, ◌+◌, ◌-◌}
use mathlib.Core.Path.{sym, ap, ◌∙◌}
use native.Mathlib.Omega.{arith}
use lib.ListN.{take}
use Rattle.laws.specs.Bits.{bits_of}
use Rattle.crc8.specs.Checksum.{crc_bits}
use Rattle.crc8.proofs.Registers.{bits-next, bits-end}
use Rattle.crc8.proofs.update_bits.Goals as goal

pub loop-i-preserved : goal.loop-i-preserved
loop-i-preserved c =
    let at = c.loop-i in
    let byte = c.args.byte in
    let count = c.args.count in
    ap (λ (r : ℕ). crc_bits r (take (count - (at.i + 1)) (bits_of (8 - (at.i + 1)) byte))) c.step-register.ensures
    ∙ sym (bits-next at.register byte count at.i (omega arith) (omega arith))
    ∙ at.invariant

pub returns : goal.returns
returns c =
    let at = c.loop-i in sym (bits-end at.register c.args.byte (c.args.count - at.i) (8 - at.i) (omega arith)) ∙ at.invariant
