-- `Values::read` meets its contract.
-- Assumes nothing.
use Prim.Native.Nat.{ℕ}
use mathlib.Core.Path.{◌≡◌, ap, ◌∙◌}
use native.Mathlib.Omega.{arith}
use lib.IntN.{ℤ}
use Rattle.laws.specs.Lists.{total}
use Rattle.sbc_frame.specs.Arrays.{entry, no_samples}
use Rattle.sbc_frame.proofs.ByBlock.{total-next}
use Rattle.sbc_frame.proofs.Columns.{columns_none, columns_store, columns_skip, columns_all}
use Rattle.sbc_frame.proofs.Positions.{total-below}
use Rattle.sbc_read.specs.Reading.{value_of}
use Rattle.sbc_read.proofs.Arrays.{channel_value, value_none, values_at}
use Rattle.sbc_read.proofs.Values.read.Goals as goal
use Rattle.sbc_read.proofs.Values.read.Goals.{then-width-ne0, else-width-ne0}

pub loop-subband-init : goal.loop-subband-init
unfolding total no_samples
loop-subband-init c = (omega arith, c.requires ∙ columns_none c.args.self.now.blocks.count _)

pub overflow_add-at : goal.overflow_add-at
overflow_add-at c =
    let v = c.args.self.now in
    let below = total-below 8 (entry v.quantization.widths) c.loop-subband.subband (omega arith) in
    omega (arith, v.room 0 v.some_blocks, below, c.loop-subband.invariant.0, c.from-at.ensures)

pub loop-subband-preserved : goal.loop-subband-preserved
loop-subband-preserved c =
    let v = c.args.self.now in
    let q = v.quantization in
    let n : ℕ = v.blocks.count in
    let l = c.loop-subband in
    let g : ℕ → ℕ → ℤ = channel_value c.args.bytes.now q.widths q.factors v.position v.block_bits n in
    let more = total-next l.subband (entry q.widths) in
    elim c.if-width-ne0.branch [
      | then-width-ne0 w ↦ (
        omega (arith, more, w.at-is, l.invariant.0, w.from-at.ensures),
        columns_store n g l.subband _ l.samples.rows _ l.invariant.1
            (λ b _. ap (λ (k : ℕ). value_of c.args.bytes.now k v.block_bits (entry q.widths l.subband) (entry q.factors l.subband) b)
            l.invariant.0)
            v.blocks.at_most_16 (ap (λ x. x.rows) w.samples-is ∙ w.read_subband.ensures),
      )
      | else-width-ne0 w ↦
          let none : entry q.widths l.subband ≡ 0 = w.if-width-ne0.false in (
            omega (arith, more, w.at-is, l.invariant.0),
            ap (λ x. x.rows) w.samples-is
                ∙ columns_skip n g l.subband l.samples.rows l.invariant.1
                (λ b _. value_none c.args.bytes.now q.widths q.factors v.position v.block_bits n b l.subband none),
          )
    ]

pub returns : goal.returns
returns c =
    let v = c.args.self.now in
    let q = v.quantization in
    let l = c.loop-subband in
    columns_all v.blocks.count _ l.subband l.samples.rows _ (omega arith) l.invariant.1
    (values_at c.args.bytes.now q.widths q.factors v.position v.block_bits v.blocks.count)
