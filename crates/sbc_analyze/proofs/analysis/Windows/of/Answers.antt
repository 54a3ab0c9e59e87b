-- `sbc_analyze::analysis::Windows::of` meets its contract. The loop's invariant: the places before k hold Y, which is within the bound, and
-- the others 0.
-- Assumes nothing.
use Prim.Native.Nat.{ℕ, ◌*◌, ◌^◌, ◌≤◌, ◌<◌}
use mathlib.Core.Path.{◌≡◌, ◌∙◌, sym, ap, subst}
use native.Mathlib.Omega.{arith}
use mathlib.Core.List.{List}
use lib.IntN.{ℤ, nat_abs}
use lib.Signed.{mag}
use mir.Syntax.{w32, w64}
use mir.Val.{to_z, of_z}
use Rattle.laws.specs.Integers.{Within, floor_div}
use Rattle.laws.specs.Sums.{sum_z}
use Rattle.laws.proofs.Abs.{read_back}
use Rattle.laws.proofs.Arrays.{fill_none, stored, within-up_to}
use Rattle.sbc_filterbank.specs.Analysis.{window_term, windowed}
use Rattle.sbc_filterbank.proofs.Bands.{bands-le}
use Rattle.sbc_filterbank.proofs.Bounds.{all-next}
use Rattle.sbc_analyze.proofs.Windows.{window-small}
use Rattle.sbc_analyze.proofs.analysis.Windows.of.Goals as goal

-- the sum divided is Y[k], and within the bound
divided : (S k : ℕ) (X : List ℤ) (z : ℤ) → mag z < 2 ^ 63 → z ≡ sum_z 5 (window_term S X k)
    → floor_div (to_z w64 (of_z w64 z)) (2 ^ 15) ≡ windowed S X k
unfolding windowed
divided S k X z fits e = ap (λ (y : ℤ). floor_div y (2 ^ 15)) (read_back w64 fits ∙ e)

pub loop-k-init : goal.loop-k-init
loop-k-init g c = (omega arith, fill_none 16 _, λ i h. absurd (omega arith))

pub loop-k-preserved : goal.loop-k-preserved
loop-k-preserved g c =
    let small : nat_abs (floor_div (to_z w64 (of_z w64 c.window_sum.result)) (2 ^ 15)) ≤ 400000000 =
    window-small (to_z w64 (of_z w64 c.window_sum.result))
    (subst (λ (z : ℤ). nat_abs z ≤ 400000000 * 2 ^ 15) (sym (read_back w64 {z = c.window_sum.result} c.window_sum.type_inv))
    c.window_sum.ensures.1) in
    let turn = c.loop-k in
    let is = divided g.B.Bank.SUBBANDS turn.k c.args.history.now c.window_sum.result c.window_sum.type_inv c.window_sum.ensures.0 in (
      omega arith,
      stored w32 16 _ _ _ _ (record { sfits = c.shift_down.type_inv }) (omega (arith, bands-le g.met.B.Bank.bands)) turn.invariant.1
          (c.shift_down.ensures ∙ is),
      all-next (λ (i : ℕ). nat_abs (windowed g.B.Bank.SUBBANDS c.args.history.now i) ≤ 400000000) turn.k turn.invariant.2
          (subst (λ (z : ℤ). nat_abs z ≤ 400000000) is small),
    )

pub invariant_of-result : goal.invariant_of-result
invariant_of-result g c =
    record { small = subst (Within 400000000) (sym c.loop-k.invariant.1) (within-up_to 16 c.loop-k.k 400000000 _ c.loop-k.invariant.2) }
