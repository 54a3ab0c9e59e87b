-- `sbc_write::BodyWriter::put_block` meets its contract.
-- Assumes nothing.
use Prim.Native.Nat.{ℕ, ◌^◌, ◌<◌}
use mathlib.Core.Path.{◌≡◌, sym, ap, ◌∙◌, subst}
use mathlib.Core.Bool.{Bool}
use mathlib.Core.List.{List, []}
use native.Mathlib.Omega.{arith}
use lib.IntN.{ℤ, pos}
use lib.ListN.{get_or}
use mir.Facts.{to_z-of_z}
use Rattle.std.proofs.Common.{FitsSigned, w32, rules}
use Rattle.laws.specs.Lists.{collect}
use Rattle.laws.specs.Bits.{bits_of}
use Rattle.sbc_quantizer.specs.Quantizing.{quantize}
use Rattle.sbc_quantizer.proofs.Limits.{quantize-lt}
use Rattle.sbc_frame.specs.Arrays.{entry}
use Rattle.sbc_write.specs.Writing.{Wrote, value_bits_at, block_bits_of}
use Rattle.sbc_frame.proofs.Positions.{total-below}
use Rattle.sbc_write.proofs.Fields.{wrote_none, one_more, counted-values}
use Rattle.sbc_write.proofs.BodyWriter.put_block.Goals as goal
use Rattle.sbc_write.proofs.BodyWriter.put_block.Goals.{then-width-ne0, else-width-ne0}

-- a subband of 0 bits has none
no_value : (row : List ℤ) (widths factors : List ℕ) (s : ℕ) → entry widths s ≡ 0 → [] ≡ value_bits_at row widths factors s
unfolding bits_of
no_value row widths factors s e = rw e

pub loop-s-init : goal.loop-s-init
unfolding collect
loop-s-init c = (omega arith, wrote_none c.args.self.now)

pub put-requires : goal.put-requires
put-requires c =
    let q = c.args.quantization.now in
    let width : c.from.result ≡ entry q.widths c.loop-s.s = c.from.ensures in
    let v = c.loop-s.invariant.1 in
    rw width (record {
      short = q.widths_within c.loop-s.s;
      low =
          subst (λ (v : ℕ). v < 2 ^ entry q.widths c.loop-s.s) (sym c.quantize-value.ensures)
          (quantize-lt _ (entry q.factors c.loop-s.s) (entry q.widths c.loop-s.s));
      room = omega (arith, counted-values _ _ _ _ _ _ v, v.same_length, total-below 8 (entry q.widths) c.loop-s.s (omega arith));
    })

pub loop-s-preserved : goal.loop-s-preserved
loop-s-preserved c =
    let q = c.args.quantization.now in
    let s : ℕ = c.loop-s.s in
    let width : ℕ = entry q.widths s in
    let factor : ℕ = entry q.factors s in
    let x : ℤ = get_or c.args.row.now s (pos 0) in
    let f : ℕ → List Bool = value_bits_at c.args.row.now q.widths q.factors in
    elim c.if-width-ne0.branch [
      | then-width-ne0 w ↦
          let fits : FitsSigned w32 x = search rules in
          let same : w.quantize-value.result ≡ quantize x factor width =
          w.quantize-value.ensures ∙ ap (λ (z : ℤ). quantize z factor width) (to_z-of_z fits) in
          let wrote : Wrote c.loop-s.self w.put.new.self (f s) =
          rw (w.from.ensures, same) at w.put.ensures in
          rw w.self-is (omega arith, one_more c.args.self.now c.loop-s.self w.put.new.self s f c.loop-s.invariant.1 wrote)
      | else-width-ne0 w ↦
          let none : width ≡ 0 = omega (arith, w.if-width-ne0.false) in
          let wrote : Wrote c.loop-s.self c.loop-s.self (f s) =
          subst (λ (l : List Bool). Wrote c.loop-s.self c.loop-s.self l) (no_value c.args.row.now q.widths q.factors s none)
          (wrote_none c.loop-s.self) in
          rw w.self-is (omega arith, one_more c.args.self.now c.loop-s.self c.loop-s.self s f c.loop-s.invariant.1 wrote)
    ]

pub returns : goal.returns
unfolding block_bits_of
returns c =
    let e : c.loop-s.s ≡ 8 = omega arith in
    let q = c.args.quantization.now in
    subst (λ (n : ℕ). Wrote c.args.self.now c.loop-s.self (collect n (value_bits_at c.args.row.now q.widths q.factors))) e
    c.loop-s.invariant.1
