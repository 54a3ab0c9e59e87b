-- Reconstruction as a `Dequantizer` does it: the size of a value by the steps that it is away from the one that reconstructs to 0, and its
-- sign by the side on which it is.
-- Assumes nothing.
use mathlib.Core.Path.{◌≡◌, sym, ap, ap₂, ◌∙◌}
use mathlib.Core.Bool.{Bool}
use Prim.Native.Nat.{ℕ, zero, suc, ◌+◌, ◌*◌, ◌-◌, ◌/◌, ◌^◌, ◌≤◌, ◌<◌}
use native.Mathlib.Nat.{div-zero, div-le_self, le_refl, le_trans}
use native.Mathlib.Omega.{arith}
use lib.Dec.{ltb}
use lib.IntN.{ℤ, pos, neg_ℤ, nat_abs, sub_ℕ, ◌+ℤ◌, ◌-ℤ◌, ◌*ℤ◌, neg_ℤ-+ℤ}
use lib.Signed.{quot_z}
use lib.Pow.{pow_pos, pow_mono}
use borrow.Author.Tests.{ltb-true, ltb-false, ne_eqb}
use Rattle.std.specs.Prelude.{if◌then◌else◌}
use Rattle.laws.proofs.Abs.{nat_abs-neg, nat_abs-*-le}
use Rattle.laws.proofs.Cases.{by-test}
use Rattle.laws.proofs.Difference.{pos-sub, sub-add, sub-of-le, sub-of-ge, abs-sub-le, times-neg, quot-neg}
use Rattle.sbc_quantizer.specs.declared.Dequantizer.{Dequantizer}
use Rattle.sbc_quantizer.specs.Quantizing.{levels, reconstruct}
use Rattle.sbc_quantizer.specs.Dequantizing.{dequantizer, Dequantizes}
use Rattle.sbc_quantizer.proofs.Division.{double, fast, fast-le}

-- how far q is from a; one of the two is 0
abbrev apart : ℕ → ℕ → ℕ
apart q a = (q - a) + (a - q)

-- the value that reconstructs to 0
abbrev middle : ℕ → ℕ
middle b = 2 ^ (b - 1) - 1

-- 2 ^ b is twice 2 ^ (b - 1), and one less for b = 0
halves : (b : ℕ) → (2 ^ b ≤ 2 * 2 ^ (b - 1)) × (2 * 2 ^ (b - 1) ≤ 2 ^ b + 1)
halves zero = omega arith
halves (suc b) = omega (arith, double (suc b) (omega arith))

-- a value of b bits is at most half of 2 ^ b away from the middle
steps-le : (q b : ℕ) → q < 2 ^ b → 2 * apart q (middle b) ≤ 2 ^ b
steps-le q b h = let t = halves b in omega (arith, pow_pos (b - 1))

-- ---- by the sign: the side of the middle on which q is
module _ (q f b : ℕ) (some : 0 < b) where
  by-steps : reconstruct q f b ≡ quot_z (pos (2 ^ (f + 12)) *ℤ sub_ℕ (q + 1) (2 ^ (b - 1))) (pos (levels b))
  unfolding reconstruct
  by-steps = let h : b ≡ 0 → ⊥ = λ e. omega arith in rw (ne_eqb b 0 h, pos-sub, sub-add)

  low : q < middle b → reconstruct q f b ≡ neg_ℤ (pos (2 ^ (f + 12) * apart q (middle b) / levels b))
  low h =
      let e : 2 ^ (b - 1) - (q + 1) ≡ apart q (middle b) = omega arith in
      by-steps ∙ rw (sub-of-ge (q + 1) (2 ^ (b - 1)) (omega arith), times-neg, e) (quot-neg (2 ^ (f + 12) * apart q (middle b)) (levels b))

  high : middle b ≤ q → reconstruct q f b ≡ pos (2 ^ (f + 12) * apart q (middle b) / levels b)
  high h =
      let p = pow_pos (b - 1) in
      let e : q + 1 - 2 ^ (b - 1) ≡ apart q (middle b) = omega arith in
      by-steps ∙ rw (sub-of-le (q + 1) (2 ^ (b - 1)) (omega arith), e)

abbrev signed : Bool → ℕ → ℤ
signed negative n = if negative then neg_ℤ (pos n) else pos n

by_sign : (q f b : ℕ) → reconstruct q f b ≡ signed (ltb q (middle b)) (2 ^ (f + 12) * apart q (middle b) / levels b)
unfolding reconstruct
by_sign q f zero = by-test (λ z. pos 0 ≡ z) (ltb q 0) _ _ (λ _. rw div-zero) (λ _. rw div-zero)
by_sign q f (suc b) =
    by-test (λ z. reconstruct q f (suc b) ≡ z) (ltb q (middle (suc b))) _ _ (λ e. low q f (suc b) (omega arith) (ltb-true q (middle (suc b)) e))
    (λ e. high q f (suc b) (omega arith) (ltb-false q (middle (suc b)) e))

-- ---- how large a reconstruction is
size-le : (q f b : ℕ) → q < 2 ^ b → f ≤ 15 → 2 ^ (f + 12) * apart q (middle b) / levels b ≤ 2 ^ 27
size-le q f b hq hf =
    let h : f + 12 ≤ 27 = omega arith in
    le_trans (fast-le (f + 12) b (apart q (middle b)) (steps-le q b hq)) (pow_mono h)

pub reconstruct-bound : (q f b : ℕ) → q < 2 ^ b → f ≤ 15 → nat_abs (reconstruct q f b) ≤ 2 ^ 27
reconstruct-bound q f b hq hf =
    rw (by_sign q f b)
    (by-test (λ z. nat_abs z ≤ 2 ^ 27) (ltb q (middle b)) _ _ (λ _. rw nat_abs-neg (size-le q f b hq hf)) (λ _. size-le q f b hq hf))

-- ---- what a `Dequantizer` computes, by its fields
abbrev size_by : Dequantizer → ℕ → ℕ
size_by d q = d.multiplier * apart q d.offset + apart q d.offset / 2 ^ d.tail

abbrev pub steps_by : Dequantizer → ℕ → ℤ
steps_by d q = pos q -ℤ pos d.offset

-- the steps times the multiplier and the steps shifted have the sign of the steps
signed-size : (q a k t : ℕ) →
    pos k *ℤ (pos q -ℤ pos a) +ℤ quot_z (pos q -ℤ pos a) (pos t) ≡ signed (ltb q a) (k * apart q a + apart q a / t)
signed-size q a k t =
    rw (pos-sub q a)
    (by-test (λ z. pos k *ℤ sub_ℕ q a +ℤ quot_z (sub_ℕ q a) (pos t) ≡ z) (ltb q a) _ _ (λ e. minus (ltb-true q a e)) (λ e. plus (ltb-false q a e)))
  where
    minus : q < a → pos k *ℤ sub_ℕ q a +ℤ quot_z (sub_ℕ q a) (pos t) ≡ neg_ℤ (pos (k * apart q a + apart q a / t))
    minus h =
        let e : a - q ≡ apart q a = omega arith in
        let z : sub_ℕ q a ≡ neg_ℤ (pos (apart q a)) = sub-of-ge q a (omega arith) ∙ ap (λ (n : ℕ). neg_ℤ (pos n)) e in
        rw (z, times-neg, quot-neg) (sym (neg_ℤ-+ℤ (pos (k * apart q a)) (pos (apart q a / t))))

    plus : a ≤ q → pos k *ℤ sub_ℕ q a +ℤ quot_z (sub_ℕ q a) (pos t) ≡ pos (k * apart q a + apart q a / t)
    plus h =
        let e : q - a ≡ apart q a = omega arith in
        let z : sub_ℕ q a ≡ pos (apart q a) = sub-of-le q a h ∙ ap pos e in
        rw z

module _ {d : Dequantizer} {q f b : ℕ} (w : Dequantizes d q f b) where
  size_is : size_by d q ≡ 2 ^ (f + 12) * apart q (middle b) / levels b
  unfolding dequantizer
  size_is = ap (λ (e : Dequantizer). size_by e q) w.made ∙ fast (f + 12) b (apart q (middle b)) (steps-le q b w.value)

  size_small : size_by d q ≤ 2 ^ 27
  size_small = rw size_is (size-le q f b w.value w.factor)

  pub value-small : q < 2 ^ 16
  value-small = omega (arith, w.value, pow_mono w.bits)

  pub offset-small : d.offset < 2 ^ 16
  unfolding dequantizer
  offset-small =
      let h : b - 1 ≤ 16 = omega (arith, w.bits) in
      omega (arith, ap (λ (e : Dequantizer). e.offset) w.made, pow_mono h, pow_pos (b - 1))

  pub multiplier-small : d.multiplier ≤ 2 ^ 27
  unfolding dequantizer
  multiplier-small =
      let h : f + 12 ≤ 27 = omega (arith, w.factor) in
      omega (arith, ap (λ (e : Dequantizer). e.multiplier) w.made, div-le_self (2 ^ (f + 12)) (levels b), pow_mono h)

  pub tail-small : d.tail ≤ 16
  unfolding dequantizer
  tail-small = omega (arith, ap (λ (e : Dequantizer). e.tail) w.made, w.bits)

  steps-abs : nat_abs (steps_by d q) ≤ apart q d.offset
  steps-abs = rw pos-sub (abs-sub-le q d.offset _ (omega arith) (omega arith))

  pub steps-small : nat_abs (steps_by d q) < 2 ^ 16
  steps-small = omega (arith, steps-abs, value-small, offset-small)

  pub product_small : nat_abs (pos d.multiplier *ℤ steps_by d q) ≤ 2 ^ 27
  product_small =
      let h = nat_abs-*-le (pos d.multiplier) (steps_by d q) (le_refl d.multiplier) steps-abs in
      omega (arith, h, size_small)

  pub value-is : pos d.multiplier *ℤ steps_by d q +ℤ quot_z (steps_by d q) (pos (2 ^ d.tail)) ≡ reconstruct q f b
  unfolding dequantizer
  value-is =
      signed-size q d.offset d.multiplier (2 ^ d.tail)
      ∙ ap₂ (λ (o n : ℕ). signed (ltb q o) n) (ap (λ (e : Dequantizer). e.offset) w.made) size_is
      ∙ sym (by_sign q f b)
