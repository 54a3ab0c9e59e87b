-- Where the code reads the ring, and the outputs and a block of synthesis from what the code's steps give.
-- Assumes nothing.
use Prim.Native.Nat.{ℕ, ◌+◌, ◌*◌, ◌-◌, ◌/◌, ◌%◌, ◌≤◌, ◌<◌, zero-le}
use mathlib.Core.Path.{◌≡◌, refl, sym, ap, ap₂, ◌∙◌, subst}
use mathlib.Core.List.{List}
use native.Mathlib.Nat.{mul-le-mul_right}
use native.Mathlib.Omega.{arith}
use lib.Dec.{eqb, ltb}
use lib.ListN.{get_or, replicate, get_or-replicate}
use lib.IntN.{ℤ, pos}
use borrow.Author.Tests.{eqb-true, eqb-false}
use Rattle.laws.specs.Lists.{build}
use Rattle.laws.specs.Bits.{odd}
use Rattle.laws.specs.Sums.{sum_z, up_to, overwrite}
use Rattle.laws.proofs.Cases.{by-test}
use Rattle.laws.proofs.Lists.{get_or-build, build-is}
use Rattle.laws.proofs.Arrays.{filled-ext, get_or-filled, overwrite-ext}
use Rattle.sbc_filterbank.specs.Subbands.{Bands, padded}
use Rattle.sbc_filterbank.specs.Synthesis.{modulated_at, modulated, vector_place, rounded, synthesis_outputs}
use Rattle.sbc_filterbank.specs.Ring.{next_slot, ring_pushed}
use Rattle.sbc_modulate.specs.Fold.{pair_of, row_sum, row_value}
use Rattle.sbc_synthesize.specs.Summing.{OutputSums}
use Rattle.sbc_filterbank.proofs.Bands.{for-bands, bands-le, padded-is}
use Rattle.sbc_filterbank.proofs.Ring.{place-below}
use Rattle.sbc_modulate.proofs.Rows.{row-value-is}

-- ---- the place in a vector, as the code has it
pub place_is : (S j b : ℕ) → b % 2 * S + j ≡ vector_place S j b
unfolding vector_place odd
place_is S j b =
    by-test (λ (z : ℕ). b % 2 * S + j ≡ z) (eqb (b % 2) 1) (S + j) j
    (λ e. rw (eqb-true (b % 2) 1 e) (omega arith))
    (λ e. let ne = eqb-false (b % 2) 1 e in let z : b % 2 ≡ 0 = omega arith in rw z (omega arith))

pub row_below : {S : ℕ} (b j : ℕ) → j < S → b % 2 * S + j < 2 * S
row_below {S} b j h = let q : b % 2 * S ≤ 1 * S = mul-le-mul_right S (omega arith) in omega arith

pub place-in-below : {S : ℕ} (b j : ℕ) → j < S → vector_place S j b < 2 * S
place-in-below {S} b j h = subst (λ (n : ℕ). n < 2 * S) (place_is S j b) (row_below b j h)

-- the tap of output j and vector b
pub tap-below : {S : ℕ} (j b : ℕ) → Bands S → j < S → b < 10 → b * S + j < 10 * S
tap-below j b s = for-bands (λ s. j < s → b < 10 → b * s + j < 10 * s) s (λ l h. omega arith) (λ l h. omega arith)

pub place-first : {S : ℕ} (newest j b : ℕ) → Bands S → j < S → newest + b < 10
    → (2 * S * (newest + b) + b % 2 * S + j ≡ 2 * S * ((newest + b) % 10) + vector_place S j b)
    × (2 * S * (newest + b) + b % 2 * S + j < 160)
place-first {S} newest j b s l h =
    let e : newest + b ≡ (newest + b) % 10 = omega arith in
    let t : 2 * S * (newest + b) + b % 2 * S + j ≡ 2 * S * (newest + b) + (b % 2 * S + j) = omega arith in (
      t ∙ ap₂ (λ (n m : ℕ). 2 * S * n + m) e (place_is S j b),
      subst (λ (x : ℕ). x < 160) (sym t) (place-below (newest + b) _ s h (row_below b j l)),
    )

-- as if the slots went on: up to the tenth slot the place is the ring's, and past it 20 S too far
back : {S : ℕ} (slot x : ℕ) → Bands S → 10 ≤ slot → 2 * S * slot + x - 20 * S ≡ 2 * S * (slot - 10) + x
back slot x b h = for-bands (λ s. 2 * s * slot + x - 20 * s ≡ 2 * s * (slot - 10) + x) b (omega arith) (omega arith)

pub place-back : {S : ℕ} (newest j b : ℕ) → Bands S → newest < 10 → j < S → b < 10 → 10 ≤ newest + b
    → (2 * S * (newest + b) + b % 2 * S - 20 * S + j ≡ 2 * S * ((newest + b) % 10) + vector_place S j b)
    × (2 * S * (newest + b) + b % 2 * S - 20 * S + j < 160)
place-back {S} newest j b s n l m h =
    let e : newest + b - 10 ≡ (newest + b) % 10 = omega arith in
    let t : 2 * S * (newest + b) + b % 2 * S - 20 * S + j ≡ 2 * S * (newest + b - 10) + (b % 2 * S + j) =
    ap (λ (x : ℕ). x + j) (back (newest + b) (b % 2 * S) s h) ∙ omega arith in (
      t ∙ ap₂ (λ (n m : ℕ). 2 * S * n + m) e (place_is S j b),
      subst (λ (x : ℕ). x < 160) (sym t) (place-below (newest + b - 10) _ s (omega arith) (row_below b j l)),
    )

-- ---- the sums over no vector, and the outputs from the sums over all ten
pub sums_none : (S : ℕ) (vs : List (List ℤ)) → OutputSums S vs 0 (replicate 8 (pos 0))
unfolding sum_z
sums_none S vs = (
  sym (build-is 8 _ (replicate 8 (pos 0)) (pos 0) refl
      (λ i h. let e = sym (get_or-replicate 8 i (pos 0) (pos 0) h) in
      by-test (λ (z : ℤ). z ≡ get_or (replicate 8 (pos 0)) i (pos 0)) (ltb i S) (pos 0) (pos 0) (λ _. e) (λ _. e))),
  λ j h. zero-le,
)

pub outputs-of : {S : ℕ} (vs : List (List ℤ)) (sums out : List ℤ) → Bands S → OutputSums S vs 10 sums
    → out ≡ build 8 (up_to S (λ j. rounded S (get_or sums j (pos 0)))) → out ≡ padded (synthesis_outputs S vs)
unfolding synthesis_outputs
outputs-of {S} vs sums out b e o =
    o ∙ filled-ext 8 S _ _ (λ k h. ap (rounded S) (get_or-filled 8 S _ sums k e.0 h (bands-le b))) ∙ padded-is _ _ (bands-le b)

-- ---- the ring after a block, from what the code's steps give
pub vector-pushed : {S : ℕ} (input sums differences rows old values : List ℤ) (newest slot : ℕ) → Bands S
    → sums ≡ build 4 (up_to (S / 2) (pair_of S 0 (λ k. get_or input k (pos 0))))
    → differences ≡ build 4 (up_to (S / 2) (pair_of S 1 (λ k. get_or input k (pos 0))))
    → rows ≡ build 8 (up_to S (row_sum S sums differences)) → slot ≡ next_slot newest
    → values ≡ overwrite (2 * S * slot) (2 * S) (row_value S rows) old → values ≡ ring_pushed S (modulated S input) old newest
unfolding ring_pushed modulated
vector-pushed {S} input sums differences rows old values newest slot b p q e n x =
    x ∙ ap (λ (k : ℕ). overwrite (2 * S * k) (2 * S) (row_value S rows) old) n
    ∙ overwrite-ext (2 * S * next_slot newest) (2 * S) _ _ old
    (λ r h. row-value-is input sums differences rows b p q e r h ∙ sym (get_or-build (2 * S) (modulated_at S input) r (pos 0) h))
