-- The scale factor is defined by a search: what the number found is.
-- Assumes nothing.
use mathlib.Core.Path.{◌≡◌, sym, ◌∙◌, subst}
use mathlib.Core.Bool.{Bool, true, false}
use Prim.Native.Nat.{ℕ, zero, suc, ◌+◌, ◌^◌, ◌≤◌, ◌<◌}
use native.Mathlib.Nat.{zero-add, le_trans}
use native.Mathlib.Omega.{arith}
use lib.Dec.{ltb}
use lib.Pow.{pow_mono}
use borrow.Author.Tests.{ltb-true, lt-ltb, le-ltb}
use Rattle.laws.proofs.Cases.{by-test}
use Rattle.sbc_quantizer.specs.Quantizing.{first_from, scale_factor}

module _ (test : ℕ → Bool) where
  -- ---- the search from f finds f + k, if what is below fails, and f + k passes or is the range's end
  first-is : (f k n : ℕ) → k ≤ n → ((j : ℕ) → j < f + k → test j ≡ false) → (k < n → test (f + k) ≡ true) → first_from test f n ≡ f + k
  unfolding first_from
  first-is f zero zero h fails passes = omega arith
  first-is f zero (suc n) h fails passes =
      let z : f + 0 ≡ f = omega arith in
      let t : test f ≡ true = subst (λ (x : ℕ). test x ≡ true) z (passes (omega arith)) in
      rw t (sym z)
  first-is f (suc k) zero h fails passes = absurd (omega arith)
  first-is f (suc k) (suc n) h fails passes =
      let e : f + suc k ≡ suc f + k = omega arith in
      rw (fails f (omega arith))
      (first-is (suc f) k n (omega arith) (λ j l. fails j (omega arith)) (λ l. subst (λ (x : ℕ). test x ≡ true) e (passes (omega arith)))
      ∙ sym e)

  -- ---- the number found: it is in the range, and passes if it is not the range's end
  first-le : (f n : ℕ) → first_from test f n ≤ f + n
  unfolding first_from
  first-le f zero = omega arith
  first-le f (suc n) =
      let r = first-le (suc f) n in
      by-test (λ (k : ℕ). k ≤ f + suc n) (test f) f (first_from test (suc f) n) (λ _. omega arith) (λ _. omega arith)

  first_passes : (f n : ℕ) → first_from test f n < f + n → test (first_from test f n) ≡ true
  unfolding first_from
  first_passes f zero = λ h. absurd (omega arith)
  first_passes f (suc n) =
      by-test (λ (k : ℕ). k < f + suc n → test k ≡ true) (test f) f (first_from test (suc f) n) (λ e h. e)
      (λ _ h. first_passes (suc f) n (omega arith))

-- ---- the scale factor of m is g, if m has g + 13 binary digits; or fewer, for 0, or more, for 15
pub scale-factor-is : (m g : ℕ) → g ≤ 15 → (0 < g → 2 ^ (g + 12) ≤ m) → (g < 15 → m < 2 ^ (g + 13)) → scale_factor m ≡ g
unfolding scale_factor
scale-factor-is m g h low high =
    first-is (λ f. ltb m (2 ^ (f + 13))) 0 g 15 h
    (λ j l. let k : j + 13 ≤ g + 12 = omega arith in le-ltb m (2 ^ (j + 13)) (le_trans (pow_mono k) (low (omega arith))))
    (λ l. rw zero-add (lt-ltb m (2 ^ (g + 13)) (high l)))
    ∙ zero-add g

-- ---- a scale factor is at most 15, and below 15 it holds the maximum
pub scale-factor-le : (m : ℕ) → scale_factor m ≤ 15
unfolding scale_factor
scale-factor-le m = first-le (λ f. ltb m (2 ^ (f + 13))) 0 15

pub scale-factor-holds : (m : ℕ) → scale_factor m < 15 → m < 2 ^ (scale_factor m + 13)
unfolding scale_factor
scale-factor-holds m h = ltb-true m _ (first_passes (λ f. ltb m (2 ^ (f + 13))) 0 15 h)
