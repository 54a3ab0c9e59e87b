-- `sbc_analyze::analysis::Columns::sums` meets its contract. The loop's invariant: the places before i hold the sums, and the others 0.
-- Assumes nothing.
use Prim.Native.Nat.{ℕ, ◌+◌, ◌*◌, ◌/◌, ◌^◌, ◌≤◌, ◌<◌}
use mathlib.Core.Path.{refl, sym, ◌∙◌, subst}
use native.Mathlib.Omega.{arith}
use lib.ListN.{length}
use mir.Syntax.{w64}
use Rattle.laws.proofs.Arrays.{fill_none, filled, stored}
use Rattle.sbc_filterbank.proofs.Bands.{bands-le}
use Rattle.sbc_filterbank.proofs.Terms.{part-sum, part-within, first-within}
use Rattle.sbc_analyze.proofs.Columns.{column-ends, lent-within, columns-fit, column-sum-of, sums-within}
use Rattle.sbc_analyze.proofs.analysis.Columns.sums.Goals as goal

pub loop-i-init : goal.loop-i-init
loop-i-init g c = (omega arith, fill_none 4 _, fill_none 4 _)

pub slice_bounds-products-end : goal.slice_bounds-products-end
slice_bounds-products-end g c =
    let S = g.B.Bank.SUBBANDS in
    subst (λ (n : ℕ). c.loop-i.i * n + n / 2 ≤ length c.columns-matrix.result.now) (sym c.SUBBANDS-subbands.ensures)
    (column-ends c.loop-i.i 0 (c.loop-i.i * S) _ g.met.B.Bank.bands (omega arith) (omega arith) (omega arith) c.columns-matrix.ensures)

pub products-requires-clause-small : goal.products-requires-clause-small
products-requires-clause-small g c = (
  part-within (2 ^ 30) _ _ c.columns-matrix.result.now (lent-within _ g.met.B.Bank.bands c.columns-matrix.ensures),
  first-within (2 ^ 30) _ c.args.self.now.even (columns-fit _ c.args.self.now.even_small),
)

pub slice_bounds-products-end-in-loop-i-2 : goal.slice_bounds-products-end-in-loop-i-2
slice_bounds-products-end-in-loop-i-2 g c =
    let S = g.B.Bank.SUBBANDS in
    subst (λ (n : ℕ). c.loop-i.i * n + n / 2 + n / 2 ≤ length c.columns-matrix.result.now) (sym c.SUBBANDS-subbands.ensures)
    (column-ends c.loop-i.i (S / 2) (c.loop-i.i * S + S / 2) _ g.met.B.Bank.bands (omega arith) (omega arith) refl c.columns-matrix.ensures)

pub products-requires-in-loop-i-clause-small : goal.products-requires-in-loop-i-clause-small
products-requires-in-loop-i-clause-small g c = (
  part-within (2 ^ 30) _ _ c.columns-matrix.result.now (lent-within _ g.met.B.Bank.bands c.columns-matrix.ensures),
  first-within (2 ^ 30) _ c.args.self.now.odd (columns-fit _ c.args.self.now.odd_small),
)

pub loop-i-preserved : goal.loop-i-preserved
loop-i-preserved g c =
    let S = g.B.Bank.SUBBANDS in
    let i = c.loop-i.i in
    let below : i < 4 = omega (arith, bands-le g.met.B.Bank.bands) in (
      omega arith,
      stored w64 4 _ _ _ _ (record { sfits = c.products.type_inv }) below c.loop-i.invariant.1
          ((rw (c.SUBBANDS-subbands.ensures) at c.products.ensures)
          ∙ part-sum c.columns-matrix.result.now c.args.self.now.even (i * S) _ (S / 2) (omega arith)
          (column-ends i 0 (i * S) _ g.met.B.Bank.bands (omega arith) (omega arith) (omega arith) c.columns-matrix.ensures)
          ∙ column-sum-of S _ _ 0 (i * S) i (omega arith) c.columns-matrix.ensures),
      stored w64 4 _ _ _ _ (record { sfits = c.products-in-loop-i.type_inv }) below c.loop-i.invariant.2
          ((rw (c.SUBBANDS-subbands.ensures) at c.products-in-loop-i.ensures)
          ∙ part-sum c.columns-matrix.result.now c.args.self.now.odd (i * S + S / 2) _ (S / 2) (omega arith)
          (column-ends i (S / 2) (i * S + S / 2) _ g.met.B.Bank.bands (omega arith) (omega arith) refl c.columns-matrix.ensures)
          ∙ column-sum-of S _ _ (S / 2) (i * S + S / 2) i refl c.columns-matrix.ensures),
    )

pub invariant_of-result : goal.invariant_of-result
invariant_of-result g c =
    let columns = c.args.self.now in record {
      even_small =
          sums-within columns.even _ 0 g.met.B.Bank.bands columns.even_small
          (filled 4 _ _ _ _ (omega arith) (omega arith) c.loop-i.invariant.1);
      odd_small =
          sums-within columns.odd _ _ g.met.B.Bank.bands columns.odd_small
          (filled 4 _ _ _ _ (omega arith) (omega arith) c.loop-i.invariant.2);
    }
