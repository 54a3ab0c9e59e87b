-- `sbc_write::BodyWriter::put_values` meets its contract.
-- Assumes nothing.
use Prim.Native.Nat.{ℕ, ◌+◌, ◌*◌, ◌≤◌, ◌<◌}
use mathlib.Core.Path.{◌≡◌, ap}
use mathlib.Core.Bool.{Bool}
use mathlib.Core.List.{List, []}
use native.Mathlib.Nat.{add-mul, mul-le-mul_right}
use native.Mathlib.Omega.{arith}
use lib.IntN.{ℤ}
use lib.ListN.{length, get_or}
use Rattle.std.proofs.lemmas.List.{get_or-map}
use Rattle.laws.specs.Lists.{collect, total}
use Rattle.sbc_frame.specs.Arrays.{entry, rows_of}
use Rattle.sbc_frame.specs.declared.Quantization.{Quantization}
use Rattle.sbc_write.specs.declared.BodyWriter.{BodyWriter}
use Rattle.sbc_write.specs.Writing.{Wrote, block_bits_of, value_bits_of, values_width, widths_of, factors_of}
use Rattle.sbc_write.proofs.Fields.{wrote_none, wrote_more, one_more, counted-block, counted-blocks}
use Rattle.sbc_write.proofs.BodyWriter.put_values.Goals as goal

pub loop-block-init : goal.loop-block-init
unfolding value_bits_of collect
loop-block-init c = (omega arith, wrote_none c.args.self.now)

-- what is asked of a channel by its place in an array is asked of it by the rows of all
module _ (qs : List Quantization) (c : ℕ) (d : Quantization) (lt : c < length qs) where
  widths-at : get_or (widths_of qs) c [] ≡ (get_or qs c d).widths
  widths-at = get_or-map (λ q. q.widths) qs c d [] lt

  width-at : total 8 (entry (get_or (widths_of qs) c [])) ≡ total 8 (entry (get_or qs c d).widths)
  width-at = ap (λ (row : List ℕ). total 8 (entry row)) widths-at

  wrote-at : (a b : BodyWriter) (row : List ℤ) → Wrote a b (block_bits_of row (get_or qs c d).widths (get_or qs c d).factors)
      → Wrote a b (block_bits_of row (get_or (widths_of qs) c []) (get_or (factors_of qs) c []))
  wrote-at a b row h = rw (widths-at, get_or-map (λ q. q.factors) qs c d [] lt) h

-- one block more takes no more than all
block-room : (k n width : ℕ) → k < n → k * width + width ≤ n * width
block-room k n width h = let there : k + 1 ≤ n = omega arith in omega (arith, add-mul k 1 width, mul-le-mul_right width there)

pub put_block-requires : goal.put_block-requires
put_block-requires c =
    let v = c.loop-block.invariant.1 in
    let qs = c.args.quantizations.now in
    omega (
      arith,
      counted-blocks _ _ _ _ _ _ v,
      v.same_length,
      block-room c.loop-block.block c.args.blocks.count (values_width (widths_of qs)) (omega arith),
      width-at qs 0 c.index-quantizations-0.result (omega arith),
    )

pub put_block-requires-in-loop-block : goal.put_block-requires-in-loop-block
put_block-requires-in-loop-block c =
    let v = c.loop-block.invariant.1 in
    let first = c.put_block.ensures in
    let qs = c.args.quantizations.now in
    omega (
      arith,
      counted-block _ _ _ _ _ first,
      first.same_length,
      counted-blocks _ _ _ _ _ _ v,
      v.same_length,
      block-room c.loop-block.block c.args.blocks.count (values_width (widths_of qs)) (omega arith),
      width-at qs 0 c.index-quantizations-0.result (omega arith),
      width-at qs 1 c.index-quantizations-1.result (omega arith),
    )

pub loop-block-preserved : goal.loop-block-preserved
unfolding value_bits_of collect
loop-block-preserved c =
    let qs = c.args.quantizations.now in
    let row : ℕ → ℕ → List Bool =
    λ b ch. block_bits_of (get_or (rows_of c.args.samples.now ch) b []) (get_or (widths_of qs) ch []) (get_or (factors_of qs) ch []) in
    let first = wrote-at qs 0 c.index-quantizations-0.result (omega arith) _ _ _ c.put_block.ensures in
    let second = wrote-at qs 1 c.index-quantizations-1.result (omega arith) _ _ _ c.put_block-in-loop-block.ensures in
    let k : ℕ = c.loop-block.block in (
      omega arith,
      one_more c.args.self.now c.loop-block.self c.put_block-in-loop-block.new.self k (λ b. collect 2 (row b)) c.loop-block.invariant.1
          (wrote_more c.loop-block.self c.put_block.new.self c.put_block-in-loop-block.new.self (row k 0) (row k 1) first second),
    )
