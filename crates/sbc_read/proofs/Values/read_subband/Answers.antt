-- `Values::read_subband` meets its contract: each value stands in the frame, since those of the channel do.
-- Assumes nothing.
use Prim.Native.Nat.{ℕ}
use mathlib.Core.Path.{ap, ◌∙◌}
use native.Mathlib.Omega.{arith}
use borrow.Author.Rules.{rules}
use Rattle.sbc_quantizer.specs.Quantizing.{reconstruct}
use Rattle.sbc_quantizer.specs.Dequantizing.{Dequantizes}
use Rattle.sbc_read.specs.Reading.{value_of}
use Rattle.sbc_frame.specs.Arrays.{entry}
use Rattle.sbc_frame.proofs.Columns.{column_none, column_next}
use Rattle.sbc_frame.proofs.Positions.{total-below}
use Rattle.sbc_read.proofs.Values.read_subband.Goals as goal

pub loop-block-init : goal.loop-block-init
loop-block-init c = column_none _ _ _ (search rules)

pub overflow_add-at : goal.overflow_add-at
overflow_add-at c =
    let v = c.args.self.now in
    let before = total-below 8 (entry v.quantization.widths) c.args.subband (omega arith) in
    omega (arith, v.room c.loop-block.block (omega arith), before, c.requires.place)

pub number_at-value-requires : goal.number_at-value-requires
number_at-value-requires c =
    let v = c.args.self.now in
    let before = total-below 8 (entry v.quantization.widths) c.args.subband (omega arith) in
    let inside = v.room c.loop-block.block (omega arith) in
    (omega arith, v.quantization.widths_within c.args.subband, omega (arith, inside, before, c.requires.place))

pub loop-block-preserved : goal.loop-block-preserved
unfolding value_of
loop-block-preserved c =
    let q = c.args.self.now.quantization in
    let s : ℕ = c.args.subband in
    let width : ℕ = entry q.widths s in
    let factor : ℕ = entry q.factors s in
    let l = c.loop-block in
    let fit : Dequantizes c.new-dequantizer.result c.number_at-value.result factor width =
    record {
      bits = q.widths_within s;
      factor = q.factors_within s;
      made = c.new-dequantizer.ensures;
      value = c.number_at-value.ensures.1;
    } in
    column_next s _ c.args.samples.now.rows l.block l.samples.rows c.apply.result l.invariant
    (omega (arith, c.args.self.now.blocks.at_most_16))
    (record { sfits = c.apply.type_inv })
    (c.apply.ensures factor width fit ∙ ap (λ (n : ℕ). reconstruct n factor width) c.number_at-value.ensures.0)
