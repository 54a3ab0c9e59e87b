-- `sbc_write::BodyWriter::put` meets its contract.
-- Assumes nothing.
use Prim.Native.Nat.{ℕ, ◌+◌, ◌-◌, ◌*◌, ◌/◌, ◌%◌, ◌^◌, ◌≤◌, ◌<◌}
use mathlib.Core.Path.{◌≡◌, refl, ap, ◌∙◌}
use mathlib.Core.List.{List}
use native.Mathlib.Nat.{mod-lt}
use native.Mathlib.Omega.{arith}
use lib.ListN.{set, length-set}
use lib.Seq.{drop-set-lt}
use lib.Pow.{pow_pos, pow_mono, shl_exact}
use denote.Ref.{at_last}
use Rattle.laws.proofs.Bits.{length-bits_of}
use Rattle.sbc_write.specs.declared.Writer.{Writer}
use Rattle.sbc_write.proofs.Flushing.{bytes-set, joined-lt, byte-lt, unit, behind_more, taken-up, flushed}
use Rattle.sbc_write.proofs.BodyWriter.put.Goals as goal

-- the bits held and a field behind them, within a word
joined : (w : Writer) (value count : ℕ) → value < 2 ^ count → count ≤ 16
    → ((w.bits * 2 ^ count) % 2 ^ 64 ≡ w.bits * 2 ^ count) × (w.bits * 2 ^ count + value < 2 ^ (w.held + count))
    × (2 ^ (w.held + count) ≤ 2 ^ 23)
joined w value count v k =
    let few = w.held_within in (
      shl_exact w.held count 64 w.bits_within (omega (arith, few)),
      joined-lt w.held count w.bits value w.bits_within v,
      pow_mono {i = w.held + count} {j = 23} (omega (arith, few)),
    )

pub loop-held-init : goal.loop-held-init
loop-held-init c =
    let up = joined c.args.self.now.writer c.args.value c.args.count c.requires.low c.requires.short in
    record {
      few = omega arith;
      low = rw (up.0, c.from.ensures) up.1;
      long = refl;
      count = refl;
      same_bytes = refl;
      written = refl;
      behind = refl;
    }

pub overflow_cast-self-in-loop-held : goal.overflow_cast-self-in-loop-held
overflow_cast-self-in-loop-held c = omega (arith, byte-lt c.loop-held.held c.loop-held.bits c.loop-held-test.true c.loop-held.invariant.low)

pub loop-held-preserved : goal.loop-held-preserved
loop-held-preserved c =
    let v = c.loop-held.invariant in
    let bytes : List ℕ = c.loop-held.self.bytes.now in
    let n : ℕ = c.loop-held.held - 8 in
    let divisor : (1 * 2 ^ n) % 2 ^ 64 ≡ 2 ^ n = unit n (omega arith) in
    rw divisor (record {
      few = omega arith;
      low = mod-lt c.loop-held.bits (pow_pos n);
      long = length-set bytes c.loop-held.at (c.loop-held.bits / 2 ^ n) ∙ v.long;
      count = omega arith;
      same_bytes = ap (λ r. at_last r (set bytes c.loop-held.at (c.loop-held.bits / 2 ^ n))) v.same_bytes;
      written = flushed bytes c.loop-held.at c.loop-held.held c.loop-held.bits (omega arith) (omega arith) ∙ v.written;
      behind =
          behind_more c.loop-held.at (c.loop-held.at + 1) _ bytes _ (omega arith) v.behind
          (drop-set-lt (c.loop-held.at + 1) bytes c.loop-held.at _ (omega arith));
    })

pub returns : goal.returns
returns c =
    let v = c.loop-held.invariant in
    let bytes : List ℕ = c.args.self.now.bytes.now in
    let w = c.args.self.now.writer in
    let up = joined w c.args.value c.args.count c.requires.low c.requires.short in
    record {
      same_bytes = v.same_bytes;
      same_length = v.long;
      written = v.written ∙ rw (up.0, c.from.ensures) (taken-up bytes w.at w.held w.bits c.args.value c.args.count c.requires.low);
      counted = omega (arith, length-bits_of c.args.count c.args.value);
      behind = v.behind;
    }

pub invariant_of-self : goal.invariant_of-self
invariant_of-self c =
    let low = byte-lt c.loop-held.held c.loop-held.bits c.loop-held-test.true c.loop-held.invariant.low in
    record { bytes_within = bytes-set c.loop-held.self.bytes.now c.loop-held.at _ low c.loop-held.self.bytes_within }
