-- Laws of finite sums of integers: one more term, equal terms, linearity and bounds; and of sums of naturals, for the bounds.
-- Assumes nothing.
use Prim.Native.Nat.{ℕ, zero, suc, ◌+◌, ◌*◌, ◌^◌, ◌≤◌, ◌<◌, zero-le}
use mathlib.Core.Path.{◌≡◌, refl, sym, ap, ap₂, ◌∙◌}
use native.Mathlib.Nat.{le_refl, le_trans, add-zero, add-suc, zero-mul, add-mul, add-le-add}
use native.Mathlib.Numerals.{add-one}
use native.Mathlib.Omega.{arith}
use lib.IntN.{ℤ, pos, neg_ℤ, nat_abs, ◌+ℤ◌, ◌-ℤ◌, ◌*ℤ◌, *ℤ-zero, neg_ℤ-+ℤ}
use lib.Signed.{mag}
use mir.Syntax.{w32}
use mir.Val.{to_z, of_z}
use Rattle.laws.specs.Lists.{total}
use Rattle.laws.specs.Sums.{sum_z}
use Rattle.laws.proofs.Lists.{total-const}
use Rattle.laws.proofs.Ring.{+ℤ-swap, *ℤ-+ℤ}
use Rattle.laws.proofs.Abs.{nat_abs-+, read_back}

-- ---- one term more, as a loop adds it
pub sum_z-zero : (f : ℕ → ℤ) → sum_z 0 f ≡ pos 0
unfolding sum_z
sum_z-zero f = refl

sum_z-more : (n : ℕ) (f : ℕ → ℤ) → sum_z (n + 1) f ≡ sum_z n f +ℤ f n
unfolding sum_z
sum_z-more n f = ap (λ (k : ℕ). sum_z k f) (add-one n)

-- one turn of a loop that adds P n * X n to a sum by `multiply_add`, as the machine reads the factors p and x back
pub next-sum : (n : ℕ) (P X : ℕ → ℤ) (s p x : ℤ) → mag p < 2 ^ 31 → mag x < 2 ^ 31 → s ≡ sum_z n (λ k. P k *ℤ X k) → p ≡ P n → x ≡ X n
    → s +ℤ to_z w32 (of_z w32 p) *ℤ to_z w32 (of_z w32 x) ≡ sum_z (n + 1) (λ k. P k *ℤ X k)
next-sum n P X s p x hp hx e ep ex =
    ap₂ (λ y z. s +ℤ y *ℤ z) (read_back w32 hp ∙ ep) (read_back w32 hx ∙ ex) ∙ ap (λ y. y +ℤ P n *ℤ X n) e ∙ sym (sum_z-more n (λ k. P k *ℤ X k))

-- ---- equal terms
pub sum_z-ext : (n : ℕ) (f g : ℕ → ℤ) → ((k : ℕ) → k < n → f k ≡ g k) → sum_z n f ≡ sum_z n g
unfolding sum_z
sum_z-ext zero f g h = refl
sum_z-ext (suc n) f g h = ap₂ (λ x y. x +ℤ y) (sum_z-ext n f g (λ k p. h k (omega arith))) (h n (le_refl (suc n)))

-- ---- linearity
pub sum_z-+ : (n : ℕ) (f g : ℕ → ℤ) → sum_z n (λ k. f k +ℤ g k) ≡ sum_z n f +ℤ sum_z n g
unfolding sum_z
sum_z-+ zero f g = refl
sum_z-+ (suc n) f g = ap (λ x. x +ℤ (f n +ℤ g n)) (sum_z-+ n f g) ∙ +ℤ-swap (sum_z n f) (sum_z n g) (f n) (g n)

pub sum_z-neg : (n : ℕ) (f : ℕ → ℤ) → sum_z n (λ k. neg_ℤ (f k)) ≡ neg_ℤ (sum_z n f)
unfolding sum_z
sum_z-neg zero f = refl
sum_z-neg (suc n) f = ap (λ x. x +ℤ neg_ℤ (f n)) (sum_z-neg n f) ∙ sym (neg_ℤ-+ℤ (sum_z n f) (f n))

pub sum_z-- : (n : ℕ) (f g : ℕ → ℤ) → sum_z n (λ k. f k -ℤ g k) ≡ sum_z n f -ℤ sum_z n g
sum_z-- n f g = sum_z-+ n f (λ k. neg_ℤ (g k)) ∙ ap (λ x. sum_z n f +ℤ x) (sum_z-neg n g)

pub sum_z-* : (n : ℕ) (a : ℤ) (f : ℕ → ℤ) → sum_z n (λ k. a *ℤ f k) ≡ a *ℤ sum_z n f
unfolding sum_z
sum_z-* zero a f = sym (*ℤ-zero a)
sum_z-* (suc n) a f = ap (λ x. x +ℤ a *ℤ f n) (sum_z-* n a f) ∙ sym (*ℤ-+ℤ a (sum_z n f) (f n))

-- ---- sums of naturals
total-* : (n : ℕ) (f : ℕ → ℕ) (b : ℕ) → total n (λ k. f k * b) ≡ total n f * b
unfolding total
total-* zero f b = sym (zero-mul b)
total-* (suc n) f b = ap (λ (x : ℕ). x + f n * b) (total-* n f b) ∙ sym (add-mul (total n f) (f n) b)

-- fewer terms sum to less
pub total-fewer : (m k : ℕ) (f : ℕ → ℕ) → total m f ≤ total (m + k) f
unfolding total
total-fewer m zero f = rw (add-zero m) (le_refl (total m f))
total-fewer m (suc k) f = rw (add-suc m k) (let h = total-fewer m k f in omega arith)

-- ---- bounds: each term within its own bound
sum_z-within : (n : ℕ) (f : ℕ → ℤ) (g : ℕ → ℕ) → ((k : ℕ) → k < n → nat_abs (f k) ≤ g k) → nat_abs (sum_z n f) ≤ total n g
unfolding sum_z total
sum_z-within zero f g h = zero-le
sum_z-within (suc n) f g h = le_trans (nat_abs-+ (sum_z n f) (f n)) (add-le-add (sum_z-within n f g (λ k p. h k (omega arith))) (h n (le_refl (suc n))))

-- n terms, each within b
pub sum_z-bound : (n b : ℕ) (f : ℕ → ℤ) → ((k : ℕ) → k < n → nat_abs (f k) ≤ b) → nat_abs (sum_z n f) ≤ n * b
sum_z-bound n b f h = rw (total-const n b) at (sum_z-within n f (λ _. b) h)
