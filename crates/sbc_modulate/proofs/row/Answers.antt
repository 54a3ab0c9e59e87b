-- `sbc_modulate::row` meets its contract: the two branches differ in the pairs that they take.
-- Assumes nothing.
use Prim.Native.Nat.{ℕ, ◌+◌, ◌*◌, ◌/◌, ◌^◌, ◌≤◌}
use mathlib.Core.Path.{◌∙◌, sym, subst}
use native.Mathlib.Omega.{arith}
use lib.ListN.{length}
use mir.Syntax.{w64}
use mir.Facts.{to_z-of_z}
use Rattle.sbc_filterbank.proofs.Terms.{part-sum, part-within, first-within}
use Rattle.sbc_modulate.proofs.Rows.{row-ends, lent-within, row-even, row-uneven}
use Rattle.sbc_modulate.proofs.row.Goals as goal

pub slice_bounds-cosines-end : goal.slice_bounds-cosines-end
slice_bounds-cosines-end g c =
    subst (λ (n : ℕ). c.args.m * (n / 2) + n / 2 ≤ length c.rows.result.now) (sym c.SUBBANDS-half.ensures)
    (row-ends _ _ g.met.B.Bank.bands c.requires c.rows.ensures)

pub products-requires-clause-small : goal.products-requires-clause-small
products-requires-clause-small g c = (
  part-within (2 ^ 30) _ _ c.rows.result.now (lent-within _ g.met.B.Bank.bands c.rows.ensures),
  first-within (2 ^ 30) _ c.args.pairs.now.sums c.args.pairs.now.sums_small,
)

pub returns-then-takes_sums : goal.returns-then-takes_sums
returns-then-takes_sums g c =
    to_z-of_z {w = w64} (record { sfits = c.products.type_inv })
    ∙ (rw (c.SUBBANDS-half.ensures) at c.products.ensures)
    ∙ part-sum c.rows.result.now c.args.pairs.now.sums _ _ _ (omega arith) (row-ends _ _ g.met.B.Bank.bands c.requires c.rows.ensures)
    ∙ row-even _ _ _ _ _ c.rows.ensures (sym c.takes_sums.ensures ∙ c.if-takes_sums.true)

pub products-requires-2-clause-small : goal.products-requires-2-clause-small
products-requires-2-clause-small g c = (
  part-within (2 ^ 30) _ _ c.rows.result.now (lent-within _ g.met.B.Bank.bands c.rows.ensures),
  first-within (2 ^ 30) _ c.args.pairs.now.differences c.args.pairs.now.differences_small,
)

pub returns : goal.returns
returns g c =
    to_z-of_z {w = w64} (record { sfits = c.products-2.type_inv })
    ∙ (rw (c.SUBBANDS-half.ensures) at c.products-2.ensures)
    ∙ part-sum c.rows.result.now c.args.pairs.now.differences _ _ _ (omega arith)
    (row-ends _ _ g.met.B.Bank.bands c.requires c.rows.ensures)
    ∙ row-uneven _ _ _ _ _ c.rows.ensures (sym c.takes_sums.ensures ∙ c.if-takes_sums.false)
