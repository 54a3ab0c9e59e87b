-- `crc8::update` meets its contract. The invariant: the bytes that are left take the register to the result.
-- Assumes nothing.
use Prim.Native.Nat.{ℕ, ◌+◌}
use mathlib.Core.Path.{◌≡◌, sym, ap, ◌∙◌}
use native.Mathlib.Omega.{arith}
use lib.ListN.{get_or, drop}
use lib.Seq.{take_all}
use Rattle.laws.specs.Bits.{bits_of, bits_of_bytes}
use Rattle.laws.proofs.Bits.{length-bits_of}
use Rattle.crc8.specs.Checksum.{crc_bits}
use Rattle.crc8.proofs.Registers.{bytes_next, bytes-end}
use Rattle.crc8.proofs.update.Goals as goal

pub loop-byte-preserved : goal.loop-byte-preserved
loop-byte-preserved c =
    let at = c.loop-byte in
    let bytes = c.args.bytes.now in
    let bits = bits_of 8 (get_or bytes at.byte-index 0) in
    let r : c.update_bits-register.result ≡ crc_bits at.register bits =
    c.update_bits-register.ensures
    ∙ ap (crc_bits at.register) (take_all 8 bits (omega (arith, length-bits_of 8 (get_or bytes at.byte-index 0)))) in
    ap (λ (r : ℕ). crc_bits r (bits_of_bytes (drop (at.byte-index + 1) bytes))) r
    ∙ sym (bytes_next at.register bytes at.byte-index (omega arith))
    ∙ at.invariant

pub returns : goal.returns
returns c = let at = c.loop-byte in sym (bytes-end at.register _ at.byte-index c.loop-byte-test.false) ∙ at.invariant
