-- `sbc_synthesize::Ring::add_vector` meets its contract. The loop's invariant: the places before j hold the sums with one term more,
-- within their bound, and the others 0.
-- Assumes nothing.
use Prim.Native.Nat.{ℕ, ◌+◌, ◌*◌, ◌%◌, ◌^◌, ◌≤◌, ◌<◌}
use mathlib.Core.Path.{◌≡◌, ◌∙◌, sym, ap, subst}
use mathlib.Core.List.{List}
use native.Mathlib.Nat.{le_of_lt}
use native.Mathlib.Omega.{arith}
use lib.Dec.{lit<}
use lib.IntN.{ℤ, pos, nat_abs, ◌+ℤ◌, ◌*ℤ◌}
use lib.ListN.{get_or, length}
use lib.Signed.{mag}
use mir.Syntax.{w32, w64}
use mir.Val.{to_z, of_z}
use mir.Facts.{to_z-of_z}
use Rattle.laws.proofs.Arrays.{fill_none, stored}
use Rattle.sbc_filterbank.specs.Subbands.{Bands, prototype_at}
use Rattle.sbc_tables.specs.Tables.{prototype}
use Rattle.sbc_filterbank.specs.Synthesis.{vector_at, vector_place}
use Rattle.sbc_filterbank.specs.Ring.{ring}
use Rattle.sbc_synthesize.specs.Summing.{tap_sum, OutputSums}
use Rattle.sbc_filterbank.proofs.Bands.{bands-le, prototype-length}
use Rattle.sbc_filterbank.proofs.Bounds.{summed-next, summed-fits, read_small, all-next}
use Rattle.sbc_filterbank.proofs.Ring.{ring-at}
use Rattle.sbc_synthesize.proofs.Samples.{tap-sum-bound, SampleSummed, sample-summed, summed}
use Rattle.sbc_synthesize.proofs.Blocks.{place-in-below, tap-below}
use Rattle.sbc_synthesize.proofs.Ring.add_vector.Goals as goal

-- what the turn reads, the ring at the place and a sum so far, and the sum with one term more
module _ {S j b : ℕ} (newest : ℕ) (values taps sums : List ℤ) (at : ℕ) (bands : Bands S) (below : j < S) (here : b < 10)
    (p : taps ≡ prototype S)
    (o : OutputSums S (ring S values newest) b sums) (a : at ≡ 2 * S * ((newest + b) % 10) + vector_place S j b)
    (tap : mag (get_or taps (b * S + j) (pos 0)) < 2 ^ 31) (held : mag (get_or values at (pos 0)) < 2 ^ 31) where
  held-is : get_or values at (pos 0) ≡ vector_at (ring S values newest) b (vector_place S j b)
  held-is = ap (λ (n : ℕ). get_or values n (pos 0)) a ∙ sym (ring-at S values newest b _ here (place-in-below b j below))

  so_far : SampleSummed S (ring S values newest) j b (to_z w64 (of_z w64 (get_or sums j (pos 0))))
  so_far =
      let w = sample-summed (ring S values newest) sums bands b j o below in
      subst (SampleSummed S (ring S values newest) j b)
      (sym (to_z-of_z (summed-fits w 10 700000000 (tap-sum-bound j bands below) (le_of_lt here) (lit< tt)))) w

  next : SampleSummed S (ring S values newest) j (b + 1)
      (to_z w64 (of_z w64 (get_or sums j (pos 0)))
      +ℤ to_z w32 (of_z w32 (get_or taps (b * S + j) (pos 0))) *ℤ to_z w32 (of_z w32 (get_or values at (pos 0))))
  unfolding prototype_at
  next =
      summed-next so_far (get_or taps (b * S + j) (pos 0)) (get_or values at (pos 0)) tap held
      (ap (λ (l : List ℤ). get_or l (b * S + j) (pos 0)) p) held-is (read_small w32 (get_or values at (pos 0)) held)

pub loop-j-init : goal.loop-j-init
loop-j-init g c = (omega arith, fill_none 8 _, λ i h. omega arith)

pub bounds-taps-b : goal.bounds-taps-b
bounds-taps-b g c =
    let below = tap-below c.loop-j.j c.args.b g.met.B.Bank.bands (omega arith) c.requires.0 in
    rw (c.SUBBANDS-subbands.ensures) (omega (arith, below, ap length c.prototype-taps.ensures, prototype-length g.met.B.Bank.bands))

pub multiply_add-requires : goal.multiply_add-requires
multiply_add-requires g c =
    let S = g.B.Bank.SUBBANDS in
    let taps = c.prototype-taps.result.now in
    let ring = c.args.self.now in
    let below : c.loop-j.j < S = omega arith in
    let place = c.place-at.ensures c.loop-j.j below in
    let read : mag (get_or taps (c.args.b * c.SUBBANDS-subbands.result + c.loop-j.j) (pos 0)) < 2 ^ 31 = omega arith in
    let tap : mag (get_or taps (c.args.b * S + c.loop-j.j) (pos 0)) < 2 ^ 31 = rw (c.SUBBANDS-subbands.ensures) at read in
    let held : mag (get_or ring.values.now (c.place-at.result + c.loop-j.j) (pos 0)) < 2 ^ 31 = omega arith in
    let n = next ring.newest ring.values.now taps c.args.sums.now
    (c.place-at.result + c.loop-j.j) g.met.B.Bank.bands below c.requires.0 c.prototype-taps.ensures
    c.requires.1 place.0 tap held in
    rw (c.SUBBANDS-subbands.ensures) (summed-fits n 10 700000000 (tap-sum-bound c.loop-j.j g.met.B.Bank.bands below) (omega
    (arith, c.requires.0)) (lit< tt))

pub loop-j-preserved : goal.loop-j-preserved
loop-j-preserved g c =
    let S = g.B.Bank.SUBBANDS in
    let taps = c.prototype-taps.result.now in
    let ring = c.args.self.now in
    let turn = c.loop-j in
    let below : turn.j < S = omega arith in
    let place = c.place-at.ensures turn.j below in
    let read : mag (get_or taps (c.args.b * c.SUBBANDS-subbands.result + turn.j) (pos 0)) < 2 ^ 31 = omega arith in
    let tap : mag (get_or taps (c.args.b * S + turn.j) (pos 0)) < 2 ^ 31 = rw (c.SUBBANDS-subbands.ensures) at read in
    let held : mag (get_or ring.values.now (c.place-at.result + turn.j) (pos 0)) < 2 ^ 31 = omega arith in
    let n = next ring.newest ring.values.now taps c.args.sums.now
    (c.place-at.result + turn.j) g.met.B.Bank.bands below c.requires.0 c.prototype-taps.ensures
    c.requires.1 place.0 tap held in (
      omega arith,
      stored w64 8 _ _ _ _ (record { sfits = c.multiply_add.type_inv }) (omega (arith, bands-le g.met.B.Bank.bands)) turn.invariant.1
          ((rw (c.SUBBANDS-subbands.ensures) at c.multiply_add.ensures) ∙ n.is),
      all-next (λ (i : ℕ). nat_abs (summed S ring.values.now ring.newest c.args.b i) ≤ tap_sum S (c.args.b + 1) i * 2 ^ 31)
          turn.j turn.invariant.2 n.small,
    )
