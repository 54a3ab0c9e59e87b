-- Quantizing without cases: a sample outside the limits is quantized as the limit that it passed, so that the sample raised by the limit
-- and held between 0 and twice the limit (`held_between`) is all that the formula needs.
-- Assumes nothing.
use mathlib.Core.Path.{◌≡◌, refl, sym, ap, ◌∙◌}
use mathlib.Core.Bool.{Bool, true, false, false≢true}
use Prim.Native.Nat.{ℕ, zero, suc, ◌+◌, ◌*◌, ◌/◌, ◌^◌, ◌≤◌, ◌<◌, min}
use native.Mathlib.Nat.{mul-div_cancel_left, div-le_of_le-mul, le_refl, mul-le-mul, mul-le-mul_right, zero-mul, zero-div}
use native.Mathlib.Omega.{arith}
use lib.IntN.{ℤ, pos, negsuc, neg_ℤ, nat_abs, ◌+ℤ◌, ◌*ℤ◌}
use lib.Dec.{ltb}
use lib.Signed.{le_z, lt_z}
use lib.Pow.{pow_pos, pow_mono, pow-add}
use borrow.Author.Tests.{ltb-true, ltb-false, leb-true, le-ltb}
use Rattle.laws.specs.Integers.{floor_div}
use Rattle.std.specs.Int.{int_max, int_min}
use Rattle.laws.proofs.Cases.{by-test}
use Rattle.laws.proofs.Difference.{in-range, sub_cases}
use Rattle.sbc_quantizer.specs.Quantizing.{quantize, levels}
use Rattle.sbc_quantizer.specs.Dequantizing.{held_between}

-- ---- a number that is held: the library's clamp
from-0 : (k : ℕ) → int_max (pos 0) (pos k) ≡ pos k
from-0 k = rw (le-ltb k 0 (omega arith)) refl

module _ (m : ℕ) where
  pub held_is : (z : ℤ) → int_max (pos 0) (int_min z (pos m)) ≡ pos (held_between m z)
  unfolding held_between
  held_is (pos n) =
      by-test (λ w. int_max (pos 0) w ≡ pos (min n m)) (ltb m n) (pos m) (pos n)
      (λ e. let least : m ≡ min n m = omega (arith, ltb-true m n e) in from-0 m ∙ ap pos least)
      (λ e. let least : n ≡ min n m = omega (arith, ltb-false m n e) in from-0 n ∙ ap pos least)
  held_is (negsuc n) = refl

  pub held_le : (z : ℤ) → held_between m z ≤ m
  unfolding held_between
  held_le (pos n) = omega arith
  held_le (negsuc n) = omega arith

-- ---- a sample raised by the limit, by the tests of the definition
module _ (limit : ℕ) where
  above : (x : ℤ) → le_z (pos limit) x ≡ true → held_between (limit + limit) (x +ℤ pos limit) ≡ limit + limit
  unfolding held_between
  above (pos n) e = omega (arith, leb-true limit n e)
  above (negsuc n) e = absurd (false≢true e)

  within : (x : ℤ) → le_z (pos limit) x ≡ false → lt_z x (neg_ℤ (pos limit)) ≡ false → pos (held_between (limit + limit) (x +ℤ pos limit)) ≡ x +ℤ pos limit
  unfolding held_between
  within x h k =
      let w = in-range limit x h k in
      let n : min w.from_low (limit + limit) ≡ w.from_low = omega (arith, w.below) in
      rw w.sum (ap pos n)

-- a sample below -limit stays negative
below : (m limit : ℕ) (x : ℤ) → lt_z x (neg_ℤ (pos limit)) ≡ true → held_between m (x +ℤ pos limit) ≡ 0
unfolding held_between
below m zero (pos n) e = absurd (omega (arith, ltb-true n 0 e))
below m (suc l) (pos n) e = absurd (false≢true e)
below m zero (negsuc n) e = sub_cases (λ z. held_between m z ≡ 0) 0 (suc n) (λ _. refl) (λ h. absurd (omega arith))
below m (suc l) (negsuc n) e = sub_cases (λ z. held_between m z ≡ 0) (suc l) (suc n) (λ _. refl) (λ h. absurd (omega (arith, ltb-true l n e)))

twice : (f : ℕ) → 2 ^ (f + 13) + 2 ^ (f + 13) ≡ 2 ^ (f + 14)
twice f = let e : 2 ^ (f + 14) ≡ 2 ^ f * 16384 = pow-add 2 f 14 in let g : 2 ^ (f + 13) ≡ 2 ^ f * 8192 = pow-add 2 f 13 in omega arith

module _ (x : ℤ) (f b : ℕ) where
  -- the three cases in one
  pub quantize_held : quantize x f b ≡ held_between (2 ^ (f + 13) + 2 ^ (f + 13)) (x +ℤ pos (2 ^ (f + 13))) * levels b / 2 ^ (f + 14)
  unfolding quantize
  quantize_held = go (le_z (pos (2 ^ (f + 13))) x) refl (lt_z x (neg_ℤ (pos (2 ^ (f + 13))))) refl
    where
      go : (s : Bool) → le_z (pos (2 ^ (f + 13))) x ≡ s → (t : Bool) → lt_z x (neg_ℤ (pos (2 ^ (f + 13)))) ≡ t →
          quantize x f b ≡ held_between (2 ^ (f + 13) + 2 ^ (f + 13)) (x +ℤ pos (2 ^ (f + 13))) * levels b / 2 ^ (f + 14)
      go true h t k = rw (above (2 ^ (f + 13)) x h, h, twice) (sym (mul-div_cancel_left (levels b) (pow_pos (f + 14))))
      go false h true k = rw (below (2 ^ (f + 13) + 2 ^ (f + 13)) (2 ^ (f + 13)) x k, h, k, zero-mul, zero-div)
      go false h false k =
          rw (h, k) (ap (λ (z : ℤ). nat_abs (floor_div (z *ℤ pos (levels b)) (2 ^ (f + 14)))) (sym (within (2 ^ (f + 13)) x h k)))

  quantize-le : quantize x f b ≤ levels b
  quantize-le = rw (quantize_held, twice) (div-le_of_le-mul _ (mul-le-mul_right (levels b) (held_le _ _)))

  -- a quantized value has b bits
  pub quantize-lt : quantize x f b < 2 ^ b
  quantize-lt = omega (arith, quantize-le, pow_pos b)

-- the product fits, and so does its quotient, by a shift that twice the limit does not pass
module _ (z : ℤ) (b : ℕ) (h : b ≤ 16) where
  pub product_fits : (limit : ℕ) → limit ≤ 2 ^ 32 → held_between (limit + limit) z * levels b ≤ 2 ^ 33 * 2 ^ 16
  product_fits limit k =
      let raised : held_between (limit + limit) z ≤ 2 ^ 33 = omega (arith, held_le (limit + limit) z) in
      let most : levels b ≤ 2 ^ 16 = omega (arith, pow_mono h) in
      mul-le-mul raised most

  pub quotient_fits : (e s : ℕ) → e < s → held_between (2 ^ e + 2 ^ e) z * levels b / 2 ^ s < 65536
  quotient_fits e s room =
      let raised : held_between (2 ^ e + 2 ^ e) z ≤ 2 ^ s = omega (arith, held_le (2 ^ e + 2 ^ e) z, pow_mono room, pow-add 2 e 1) in
      let most : levels b < 65536 = omega (arith, pow_mono h) in
      omega (arith, most, div-le_of_le-mul (2 ^ s) (mul-le-mul raised (le_refl (levels b))))
