-- `sbc_modulate::pair_all` meets its contract. The loop's invariant: the places before n hold the sums and the differences, and the
-- others 0.
-- Two samples within 2^29 have a sum and a difference that fit.
-- Assumes nothing.
use Prim.Native.Nat.{◌-◌, ◌<◌}
use mathlib.Core.Path.{◌∙◌, sym}
use native.Mathlib.Omega.{arith}
use lib.Dec.{lit<}
use lib.IntN.{pos}
use lib.ListN.{get_or}
use mir.Syntax.{w32}
use mir.Facts.{to_z-of_z}
use Rattle.laws.proofs.Arrays.{fill_none, filled, stored}
use Rattle.sbc_filterbank.proofs.Bands.{bands-le}
use Rattle.sbc_filterbank.proofs.Words.{plus-fits, minus-fits, read-plus, read-minus}
use Rattle.sbc_modulate.proofs.Rows.{pair-sum, pair-difference, pairs-within}
use Rattle.sbc_modulate.proofs.pair_all.Goals as goal

pub loop-n-init : goal.loop-n-init
loop-n-init g c = (omega arith, fill_none 4 _, fill_none 4 _)

pub loop-n-preserved : goal.loop-n-preserved
loop-n-preserved g c =
    let S = g.B.Bank.SUBBANDS in
    let X = c.args.input.now in
    let n = c.loop-n.n in
    let mirror = c.SUBBANDS-subbands.result - 1 - n in
    let plus = plus-fits w32 X X c.requires c.requires (lit< tt) n mirror in
    let minus = minus-fits w32 X X c.requires c.requires (lit< tt) n mirror in
    let below : n < 4 = omega (arith, bands-le g.met.B.Bank.bands) in (
      omega arith,
      stored w32 4 _ _ _ _ plus below c.loop-n.invariant.1
          (sym (to_z-of_z plus) ∙ read-plus w32 X X c.requires c.requires (lit< tt) n mirror
          ∙ rw (c.SUBBANDS-subbands.ensures) (sym (pair-sum S (λ k. get_or X k (pos 0)) n))),
      stored w32 4 _ _ _ _ minus below c.loop-n.invariant.2
          (sym (to_z-of_z minus) ∙ read-minus w32 X X c.requires c.requires (lit< tt) n mirror
          ∙ rw (c.SUBBANDS-subbands.ensures) (sym (pair-difference S (λ k. get_or X k (pos 0)) n))),
    )

pub invariant_of-result : goal.invariant_of-result
invariant_of-result g c =
    let S = g.B.Bank.SUBBANDS in
    let X = c.args.input.now in record {
      sums_small = pairs-within S 0 X c.loop-n.sums c.requires (filled 4 _ _ _ _ (omega arith) (omega arith) c.loop-n.invariant.1);
      differences_small =
          pairs-within S 1 X c.loop-n.differences c.requires (filled 4 _ _ _ _ (omega arith) (omega arith) c.loop-n.invariant.2);
    }
