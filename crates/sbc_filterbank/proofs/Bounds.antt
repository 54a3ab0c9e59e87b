-- The sums with the prototype, as the code takes them, with bounds that grow by an entry of the prototype at a time, so that what is read
-- of a history need not be known before it is read.
-- Assumes nothing.
use Prim.Native.Nat.{ℕ, ◌+◌, ◌*◌, ◌-◌, ◌^◌, ◌≤◌, ◌<◌}
use mathlib.Core.Path.{◌≡◌, refl, sym, ap, ◌∙◌, subst}
use native.Mathlib.Nat.{le_refl, le_trans, add-mul, add-le-add, mul-le-mul_right}
use native.Mathlib.Decide.{ℕ_discrete}
use native.Mathlib.Numerals.{add-one}
use native.Mathlib.Omega.{arith}
use lib.IntN.{ℤ, pos, nat_abs, ◌+ℤ◌, ◌*ℤ◌}
use lib.Signed.{mag}
use mir.Syntax.{Width, w32, w64}
use mir.Val.{SFits, hbits, to_z, of_z}
use Rattle.laws.specs.Lists.{total}
use Rattle.laws.specs.Sums.{sum_z}
use Rattle.laws.proofs.Abs.{nat_abs-+, nat_abs-*-le, abs-sfits, within-fits}
use Rattle.laws.proofs.Sums.{next-sum, total-fewer}

-- ---- s is the sum of the first n products p k × x k, and within the sum of the first n factors p k times b
pub record Summed (b : ℕ) (p x : ℕ → ℤ) (n : ℕ) (s : ℤ) : Type 0 where
  pub is : s ≡ sum_z n (λ k. p k *ℤ x k)
  pub small : nat_abs (sum_z n (λ k. p k *ℤ x k)) ≤ total n (λ k. nat_abs (p k)) * b

pub summed-none : (b : ℕ) (p x : ℕ → ℤ) → Summed b p x 0 (pos 0)
unfolding sum_z total
summed-none b p x = record { is = refl; small = omega arith }

-- one term more, as the machine reads the factors y and z back
module _ {b : ℕ} {p x : ℕ → ℤ} {n : ℕ} {s : ℤ} (w : Summed b p x n s) (y z : ℤ) where
  grown : nat_abs (x n) ≤ b → nat_abs (sum_z (n + 1) (λ k. p k *ℤ x k)) ≤ total (n + 1) (λ k. nat_abs (p k)) * b
  unfolding sum_z total
  grown h =
      rw (add-one n, add-mul (total n (λ k. nat_abs (p k))) (nat_abs (p n)) b)
      (le_trans (nat_abs-+ (sum_z n (λ k. p k *ℤ x k)) (p n *ℤ x n))
      (add-le-add w.small (nat_abs-*-le (p n) (x n) (le_refl (nat_abs (p n))) h)))

  pub summed-next : mag y < 2 ^ 31 → mag z < 2 ^ 31 → y ≡ p n → z ≡ x n → nat_abs z ≤ b
      → Summed b p x (n + 1) (s +ℤ to_z w32 (of_z w32 y) *ℤ to_z w32 (of_z w32 z))
  summed-next hy hz ey ez h =
      record { is = next-sum n p x s y z hy hz w.is ey ez; small = grown (subst (λ (v : ℤ). nat_abs v ≤ b) ez h) }

-- where the first m factors sum to at most c: the sum fits, and at the end it is within c times b
module _ {b : ℕ} {p x : ℕ → ℤ} {n : ℕ} {s : ℤ} (w : Summed b p x n s) (m c : ℕ) (t : total m (λ k. nat_abs (p k)) ≤ c) where
  within : n ≤ m → nat_abs s ≤ c * b
  within h =
      let fewer : total n (λ k. nat_abs (p k)) ≤ total m (λ k. nat_abs (p k)) =
      subst (λ (i : ℕ). total n (λ k. nat_abs (p k)) ≤ total i (λ k. nat_abs (p k))) (omega arith)
      (total-fewer n (m - n) (λ k. nat_abs (p k))) in
      subst (λ (z : ℤ). nat_abs z ≤ c * b) (sym w.is) (le_trans w.small (mul-le-mul_right b (le_trans fewer t)))

  pub summed-fits : n ≤ m → c * b < 2 ^ 63 → SFits w64 s
  summed-fits h k = within-fits w64 s (within h) k

  pub summed-all : n ≡ m → (s ≡ sum_z m (λ k. p k *ℤ x k)) × (nat_abs s ≤ c * b)
  summed-all e = (w.is ∙ ap (λ (i : ℕ). sum_z i (λ k. p k *ℤ x k)) e, within (omega arith))

-- ---- what is read is within its type's range
pub read_small : (w : Width) (z : ℤ) → mag z < 2 ^ hbits w → nat_abs z ≤ 2 ^ hbits w
read_small w z h = abs-sfits {w = w} {z = z} (record { sfits = h })

-- ---- one place more of which something holds
pub all-next : (P : ℕ → Type 0) (k : ℕ) → ((i : ℕ) → i < k → P i) → P k → (i : ℕ) → i < k + 1 → P i
all-next P k h p i l = go (ℕ_discrete i k)
  where
    go : Dec (i ≡ k) → P i
    go (yes e) = subst P (sym e) p
    go (no ne) = h i (omega arith)
