-- The rounding of an output: the sum negated, divided and with 1 added fits, and half of it is the definition's.
-- Assumes nothing.
use Prim.Native.Nat.{ℕ, suc, ◌+◌, ◌*◌, ◌-◌, ◌/◌, ◌^◌, ◌≤◌, ◌<◌}
use mathlib.Core.Bool.{Bool, true, false}
use mathlib.Core.Path.{◌≡◌, refl, sym, ap, ◌∙◌, subst}
use native.Mathlib.Nat.{le_trans}
use native.Mathlib.Omega.{arith}
use lib.Dec.{ltb, lit≤, lit<}
use lib.IntN.{ℤ, pos, negsuc, neg_ℤ, nat_abs, sub_ℕ, ◌+ℤ◌, ◌-ℤ◌, +ℤ_comm, +ℤ_idl}
use mir.Syntax.{w16, w32, w64}
use mir.Val.{SFits}
use borrow.Author.Tests.{eq-eqb, ne_eqb, ltb-true, ltb-false}
use Rattle.laws.specs.Integers.{floor_div, clamp_z}
use Rattle.laws.proofs.Abs.{nat_abs--, sum_fits, difference-fits}
use Rattle.laws.proofs.Difference.{sub-of-le, sub-of-lt}
use Rattle.laws.proofs.Floor.{nat_abs-floor}
use Rattle.sbc_filterbank.specs.Subbands.{Bands}
use Rattle.sbc_filterbank.specs.Synthesis.{rounding_bits, rounded}
use Rattle.sbc_synthesize.specs.Summing.{output_bound}
use Rattle.sbc_filterbank.proofs.Bands.{for-bands}

pub negated-sum : (z : ℤ) → nat_abs z ≤ output_bound → SFits w64 (pos 0 -ℤ z)
negated-sum z h = difference-fits w64 {a = 0} {b = output_bound} (pos 0) z (lit≤ tt) h (lit< tt)

-- m is the divisor
module _ (z : ℤ) (m : ℕ) (l : output_bound ≤ 22000000 * m) (p : 0 < m) (h : nat_abs z ≤ output_bound) where
  divided-small : nat_abs (floor_div (pos 0 -ℤ z) m) ≤ 22000000
  divided-small =
      let q : nat_abs (pos 0 -ℤ z) ≤ nat_abs z = omega (arith, nat_abs-- (pos 0) z) in
      nat_abs-floor (pos 0 -ℤ z) m 22000000 p (le_trans q (le_trans h l))

  pub one-more-fits : SFits w32 (floor_div (pos 0 -ℤ z) m +ℤ pos 1)
  one-more-fits = sum_fits w32 {a = 22000000} {b = 1} (floor_div (pos 0 -ℤ z) m) (pos 1) divided-small (lit≤ tt) (lit< tt)

-- half of 1 more than x ÷ m is x + m over 2 m, rounded down; n is 2 m
module _ (m n : ℕ) (up : (a : ℕ) → (a / m + 1) / 2 ≡ (a + m) / n) (first : (a : ℕ) → a < m → (a / m ≡ 0) × ((m - suc a) / n ≡ 0))
    (past : (a : ℕ) → m ≤ a → (1 < suc (a / m)) × ((suc (a / m) - 2) / 2 ≡ (suc a - suc m) / n)) where
  half_up : (x : ℤ) → floor_div (floor_div x m +ℤ pos 1) 2 ≡ floor_div (x +ℤ pos m) n
  half_up (pos a) = ap pos (up a)
  half_up (negsuc a) = go (ltb a m) refl
    where
      go : (t : Bool) → ltb a m ≡ t → floor_div (sub_ℕ 1 (suc (a / m))) 2 ≡ floor_div (sub_ℕ m (suc a)) n
      go true e =
          let h = ltb-true a m e in
          ap (λ (q : ℕ). floor_div (sub_ℕ 1 (suc q)) 2) (first a h).0 ∙ ap pos (sym (first a h).1)
          ∙ ap (λ (z : ℤ). floor_div z n) (sym (sub-of-le m (suc a) h))
      go false e =
          let h = ltb-false a m e in
          ap (λ (z : ℤ). floor_div z 2) (sub-of-lt 1 (suc (a / m)) (past a h).0) ∙ ap negsuc (past a h).1
          ∙ ap (λ (z : ℤ). floor_div z n) (sym (sub-of-lt m (suc a) (omega arith)))

  half-less : (z : ℤ) → floor_div (floor_div (pos 0 -ℤ z) m +ℤ pos 1) 2 ≡ floor_div (pos m -ℤ z) n
  half-less z =
      half_up (pos 0 -ℤ z) ∙ ap (λ (y : ℤ). floor_div y n) (ap (λ (y : ℤ). y +ℤ pos m) (+ℤ_idl (neg_ℤ z)) ∙ +ℤ_comm (neg_ℤ z) (pos m))

rounded-bits : (S h : ℕ) (sum : ℤ) → h ≡ rounding_bits S → clamp_z w16 (floor_div (pos (2 ^ (h - 1)) -ℤ sum) (2 ^ h)) ≡ rounded S sum
unfolding rounded
rounded-bits S h sum e = ap (λ (n : ℕ). clamp_z w16 (floor_div (pos (2 ^ (n - 1)) -ℤ sum) (2 ^ n))) e

rounded-4 : (S : ℕ) (sum : ℤ) → S ≡ 4 → clamp_z w16 (floor_div (floor_div (pos 0 -ℤ sum) (2 ^ 37) +ℤ pos 1) 2) ≡ rounded S sum
rounded-4 S sum e =
    ap (clamp_z w16) (half-less (2 ^ 37) (2 ^ 38) (λ a. omega arith) (λ a h. (omega arith, omega arith))
    (λ a h. (omega arith, omega arith)) sum)
    ∙ rounded-bits S 38 sum (rw (eq-eqb S 4 e))

rounded-8 : (S : ℕ) (sum : ℤ) → (S ≡ 4 → ⊥) → clamp_z w16 (floor_div (floor_div (pos 0 -ℤ sum) (2 ^ 36) +ℤ pos 1) 2) ≡ rounded S sum
rounded-8 S sum ne =
    ap (clamp_z w16) (half-less (2 ^ 36) (2 ^ 37) (λ a. omega arith) (λ a h. (omega arith, omega arith))
    (λ a h. (omega arith, omega arith)) sum)
    ∙ rounded-bits S 37 sum (rw (ne_eqb S 4 ne))

-- ---- the bits before the last one, for either number of subbands
pub bits-enough : {S : ℕ} (n : ℕ) → Bands S → n + 1 ≡ rounding_bits S → (n ≤ 37) × (output_bound ≤ 22000000 * 2 ^ n) × (0 < 2 ^ n)
bits-enough n b =
    for-bands (λ s. n + 1 ≡ rounding_bits s → (n ≤ 37) × (output_bound ≤ 22000000 * 2 ^ n) × (0 < 2 ^ n)) b
    (λ e. let at : 37 ≡ n = omega arith in
    subst (λ (k : ℕ). (k ≤ 37) × (output_bound ≤ 22000000 * 2 ^ k) × (0 < 2 ^ k)) at (lit≤ tt, lit≤ tt, lit< tt))
    (λ e. let at : 36 ≡ n = omega arith in
    subst (λ (k : ℕ). (k ≤ 37) × (output_bound ≤ 22000000 * 2 ^ k) × (0 < 2 ^ k)) at (lit≤ tt, lit≤ tt, lit< tt))

pub rounded-half : {S : ℕ} (n : ℕ) (sum : ℤ) → Bands S → n + 1 ≡ rounding_bits S
    → clamp_z w16 (floor_div (floor_div (pos 0 -ℤ sum) (2 ^ n) +ℤ pos 1) 2) ≡ rounded S sum
rounded-half n sum b =
    for-bands (λ s. n + 1 ≡ rounding_bits s → clamp_z w16 (floor_div (floor_div (pos 0 -ℤ sum) (2 ^ n) +ℤ pos 1) 2) ≡ rounded s sum) b
    (λ e. let at : 37 ≡ n = omega arith in
    subst (λ (k : ℕ). clamp_z w16 (floor_div (floor_div (pos 0 -ℤ sum) (2 ^ k) +ℤ pos 1) 2) ≡ rounded 4 sum) at (rounded-4 4 sum refl))
    (λ e. let at : 36 ≡ n = omega arith in
    subst (λ (k : ℕ). clamp_z w16 (floor_div (floor_div (pos 0 -ℤ sum) (2 ^ k) +ℤ pos 1) 2) ≡ rounded 8 sum) at
    (rounded-8 8 sum (λ q. omega arith)))
