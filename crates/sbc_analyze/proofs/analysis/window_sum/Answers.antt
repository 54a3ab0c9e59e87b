-- `sbc_analyze::analysis::window_sum` meets its contract. The loop's invariant: the index is that of term j, and the sum is that of the
-- terms before it, within its bound.
-- Assumes nothing.
use Prim.Native.Nat.{ℕ, ◌+◌, ◌*◌, ◌^◌, ◌≤◌, ◌<◌}
use mathlib.Core.Path.{◌≡◌, refl, ◌∙◌, sym, ap, ap₂, subst}
use mathlib.Core.List.{List}
use native.Mathlib.Omega.{arith}
use lib.Dec.{lit<}
use lib.IntN.{ℤ, pos, nat_abs, ◌+ℤ◌, ◌*ℤ◌}
use lib.ListN.{get_or, length}
use mir.Syntax.{w16, w32, w64}
use mir.Val.{to_z, of_z}
use lib.Signed.{mag}
use Rattle.laws.proofs.Abs.{read_back}
use Rattle.sbc_tables.specs.Tables.{prototype}
use Rattle.sbc_filterbank.specs.Subbands.{prototype_at}
use Rattle.sbc_filterbank.proofs.Bands.{prototype-length}
use Rattle.sbc_filterbank.proofs.Bounds.{summed-none, summed-next, summed-fits, summed-all, read_small}
use Rattle.sbc_analyze.proofs.Windows.{column-bound, WindowSummed, window-below}
use Rattle.sbc_analyze.proofs.analysis.window_sum.Goals as goal

-- the sum with one term more
next : (S k j index : ℕ) (X taps : List ℤ) (s x : ℤ) → taps ≡ prototype S → index ≡ k + 2 * S * j → WindowSummed S X k j s
    → mag (get_or taps index (pos 0)) < 2 ^ 31 → mag (get_or X index (pos 0)) < 2 ^ 15 → mag x < 2 ^ 31
    → x ≡ to_z w16 (of_z w16 (get_or X index (pos 0)))
    → WindowSummed S X k (j + 1) (s +ℤ to_z w32 (of_z w32 (get_or taps index (pos 0))) *ℤ to_z w32 (of_z w32 x))
unfolding prototype_at
next S k j index X taps s x p i w tap sample fits e =
    let read : x ≡ get_or X index (pos 0) = e ∙ read_back w16 sample in
    summed-next w (get_or taps index (pos 0)) x tap fits
    (ap₂ (λ (l : List ℤ) (n : ℕ). get_or l n (pos 0)) p i)
    (read ∙ ap (λ (n : ℕ). get_or X n (pos 0)) i)
    (subst (λ (z : ℤ). nat_abs z ≤ 2 ^ 15) (sym read) (read_small w16 (get_or X index (pos 0)) sample))

pub loop-j-init : goal.loop-j-init
loop-j-init g c = (omega arith, summed-none _ _ _)

pub bounds-taps-index : goal.bounds-taps-index
bounds-taps-index g c =
    let below = window-below c.args.k c.loop-j.j g.met.B.Bank.bands c.requires (omega arith) in
    rw (c.SUBBANDS.ensures) (omega (arith, below, ap length c.prototype-taps.ensures, prototype-length g.met.B.Bank.bands))

pub multiply_add-sum-requires : goal.multiply_add-sum-requires
multiply_add-sum-requires g c =
    let S = g.B.Bank.SUBBANDS in
    let taps = c.prototype-taps.result.now in
    let X = c.args.history.now in
    let place = λ (s : ℕ). c.args.k + 2 * s * c.loop-j.j in
    let read : mag (get_or taps (place c.SUBBANDS.result) (pos 0)) < 2 ^ 31 = omega arith in
    let held : mag (get_or X (place c.SUBBANDS.result) (pos 0)) < 2 ^ 15 = omega arith in
    let w = next S c.args.k c.loop-j.j (place S) X taps (to_z w64 c.loop-j.sum-bits) c.from.result c.prototype-taps.ensures refl
    c.loop-j.invariant.1 (rw (c.SUBBANDS.ensures) at read) (rw (c.SUBBANDS.ensures) at held) c.from.type_inv (rw
    (c.SUBBANDS.ensures) at c.from.ensures) in
    rw (c.SUBBANDS.ensures) (summed-fits w 5 400000000 (column-bound _ g.met.B.Bank.bands c.requires) (omega arith) (lit< tt))

pub loop-j-preserved : goal.loop-j-preserved
loop-j-preserved g c =
    let S = g.B.Bank.SUBBANDS in
    let taps = c.prototype-taps.result.now in
    let X = c.args.history.now in
    let place = λ (s : ℕ). c.args.k + 2 * s * c.loop-j.j in
    let read : mag (get_or taps (place c.SUBBANDS.result) (pos 0)) < 2 ^ 31 = omega arith in
    let held : mag (get_or X (place c.SUBBANDS.result) (pos 0)) < 2 ^ 15 = omega arith in
    let w = next S c.args.k c.loop-j.j (place S) X taps (to_z w64 c.loop-j.sum-bits) c.from.result c.prototype-taps.ensures refl
    c.loop-j.invariant.1 (rw (c.SUBBANDS.ensures) at read) (rw (c.SUBBANDS.ensures) at held) c.from.type_inv (rw
    (c.SUBBANDS.ensures) at c.from.ensures) in (
      omega arith,
      subst (WindowSummed S X c.args.k (c.loop-j.j + 1))
          (sym (read_back w64 c.multiply_add-sum.type_inv ∙ (rw (c.SUBBANDS.ensures) at c.multiply_add-sum.ensures))) w,
    )

pub returns : goal.returns
returns g c = summed-all c.loop-j.invariant.1 5 400000000 (column-bound _ g.met.B.Bank.bands c.requires) (omega arith)
