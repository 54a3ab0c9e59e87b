-- Linear forms, by their coefficients. A sum of products with chosen entries of Y is a sum over all entries, each with its coefficient, so two
-- such sums are equal where their coefficients are, which at known tables a test computes.
-- Assumes nothing.
use Prim.Native.Nat.{ℕ, zero, suc, ◌≤◌, ◌<◌}
use mathlib.Core.Path.{◌≡◌, refl, sym, ap, ap₂, ◌∙◌, subst}
use mathlib.Core.Logic.{◌≢◌}
use native.Mathlib.Nat.{le_refl, not-suc-le-zero}
use native.Mathlib.Decide.{ℕ_discrete}
use native.Mathlib.Omega.{arith}
use lib.IntN.{ℤ, pos, neg_ℤ, ◌+ℤ◌, ◌-ℤ◌, ◌*ℤ◌, +ℤ_idl, +ℤ_idr, zero-*ℤ}
use borrow.Author.Tests.{eq-eqb, ne_eqb}
use Rattle.laws.specs.Sums.{sum_z, delta}
use Rattle.laws.proofs.Ring.{+ℤ-*ℤ, *ℤ-+ℤ, *ℤ-assoc, neg-*ℤ, one-*ℤ}
use Rattle.laws.proofs.Sums.{sum_z-ext, sum_z-+, sum_z--, sum_z-*}

-- ---- one entry: the sum with coefficient 1 at p and 0 elsewhere
sum_z-zeros : (n : ℕ) (Y : ℕ → ℤ) → sum_z n (λ k. pos 0 *ℤ Y k) ≡ pos 0
unfolding sum_z
sum_z-zeros zero Y = refl
sum_z-zeros (suc n) Y = ap₂ (λ x y. x +ℤ y) (sum_z-zeros n Y) (zero-*ℤ (Y n))

delta-same : (p : ℕ) → delta p p ≡ pos 1
unfolding delta
delta-same p = rw (eq-eqb p p refl)

delta-other : (p k : ℕ) → p ≢ k → delta p k ≡ pos 0
unfolding delta
delta-other p k ne = rw (ne_eqb p k ne)

no-term : (p k : ℕ) (Y : ℕ → ℤ) → p ≢ k → delta p k *ℤ Y k ≡ pos 0
no-term p k Y ne = ap (λ x. x *ℤ Y k) (delta-other p k ne) ∙ zero-*ℤ (Y k)

before : (m p : ℕ) (Y : ℕ → ℤ) → m ≤ p → sum_z m (λ k. delta p k *ℤ Y k) ≡ pos 0
unfolding sum_z
before zero p Y h = refl
before (suc m) p Y h = ap₂ (λ x y. x +ℤ y) (before m p Y (omega arith)) (no-term p m Y (omega arith))

sum_z-delta : (m p : ℕ) (Y : ℕ → ℤ) → p < m → sum_z m (λ k. delta p k *ℤ Y k) ≡ Y p
unfolding sum_z
sum_z-delta zero p Y h = absurd (not-suc-le-zero h)
sum_z-delta (suc m) p Y h = go (ℕ_discrete p m) (λ q. sum_z-delta m p Y q)
  where
    go : Dec (p ≡ m) → (p < m → sum_z m (λ k. delta p k *ℤ Y k) ≡ Y p) → sum_z m (λ k. delta p k *ℤ Y k) +ℤ delta p m *ℤ Y m ≡ Y p
    go (yes e) r =
        ap (λ x. x +ℤ delta p m *ℤ Y m) (before m p Y (omega arith)) ∙ +ℤ_idl (delta p m *ℤ Y m)
        ∙ subst (λ (n : ℕ). delta p n *ℤ Y n ≡ Y p) e (ap (λ x. x *ℤ Y p) (delta-same p) ∙ one-*ℤ (Y p))
    go (no ne) r = ap₂ (λ x y. x +ℤ y) (r (omega arith)) (no-term p m Y ne) ∙ +ℤ_idr (Y p)

-- ---- the sum and the difference of two sums over the same entries
module _ (m : ℕ) (f g h : ℕ → ℤ) (Y : ℕ → ℤ) where
  pub sum_of : ((k : ℕ) → k < m → f k +ℤ g k ≡ h k) → sum_z m (λ k. f k *ℤ Y k) +ℤ sum_z m (λ k. g k *ℤ Y k) ≡ sum_z m (λ k. h k *ℤ Y k)
  sum_of e =
      sym (sum_z-+ m (λ k. f k *ℤ Y k) (λ k. g k *ℤ Y k))
      ∙ sum_z-ext m _ _ (λ k q. sym (+ℤ-*ℤ (f k) (g k) (Y k)) ∙ ap (λ x. x *ℤ Y k) (e k q))

  pub difference-of : ((k : ℕ) → k < m → f k -ℤ g k ≡ h k) → sum_z m (λ k. f k *ℤ Y k) -ℤ sum_z m (λ k. g k *ℤ Y k) ≡ sum_z m (λ k. h k *ℤ Y k)
  difference-of e =
      sym (sum_z-- m (λ k. f k *ℤ Y k) (λ k. g k *ℤ Y k))
      ∙ sum_z-ext m _ _
      (λ k q. ap (λ x. f k *ℤ Y k +ℤ x) (sym (neg-*ℤ (g k) (Y k))) ∙ sym (+ℤ-*ℤ (f k) (neg_ℤ (g k)) (Y k)) ∙ ap (λ x. x *ℤ Y k) (e k q))

-- ---- n entries of Y, at p 0, p 1, .., times a 0, a 1, ..
scatter : (n m : ℕ) (a : ℕ → ℤ) (p : ℕ → ℕ) (Y : ℕ → ℤ) → ((c : ℕ) → c < n → p c < m)
    → sum_z n (λ c. a c *ℤ Y (p c)) ≡ sum_z m (λ k. sum_z n (λ c. a c *ℤ delta (p c) k) *ℤ Y k)
unfolding sum_z
scatter zero m a p Y h = sym (sum_z-zeros m Y)
scatter (suc n) m a p Y h =
    let last : a n *ℤ Y (p n) ≡ sum_z m (λ k. a n *ℤ delta (p n) k *ℤ Y k) =
    ap (λ x. a n *ℤ x) (sym (sum_z-delta m (p n) Y (h n (le_refl (suc n))))) ∙ sym (sum_z-* m (a n) (λ k. delta (p n) k *ℤ Y k))
    ∙ sum_z-ext m _ _ (λ k q. sym (*ℤ-assoc (a n) (delta (p n) k) (Y k))) in
    ap₂ (λ x y. x +ℤ y) (scatter n m a p Y (λ c q. h c (omega arith))) last
    ∙ sum_of m (λ k. sum_z n (λ c. a c *ℤ delta (p c) k)) (λ k. a n *ℤ delta (p n) k) _ Y (λ k q. refl)

-- n terms a c × (Y (p c) + s c × Y (q c)), as a folded sum has them: the coefficient of each entry
unfoldable pub coefficient : ℕ → (ℕ → ℤ) → (ℕ → ℤ) → (ℕ → ℕ) → (ℕ → ℕ) → ℕ → ℤ
coefficient n a s p q k = sum_z n (λ c. a c *ℤ delta (p c) k) +ℤ sum_z n (λ c. a c *ℤ s c *ℤ delta (q c) k)

pub folded : (n m : ℕ) (a s : ℕ → ℤ) (p q : ℕ → ℕ) (Y : ℕ → ℤ) → ((c : ℕ) → c < n → p c < m) → ((c : ℕ) → c < n → q c < m)
    → sum_z n (λ c. a c *ℤ (Y (p c) +ℤ s c *ℤ Y (q c))) ≡ sum_z m (λ k. coefficient n a s p q k *ℤ Y k)
unfolding coefficient
folded n m a s p q Y hp hq =
    sum_z-ext n _ _ (λ c h. *ℤ-+ℤ (a c) (Y (p c)) (s c *ℤ Y (q c)) ∙ ap (λ x. a c *ℤ Y (p c) +ℤ x) (sym (*ℤ-assoc (a c) (s c) (Y (q c)))))
    ∙ sum_z-+ n (λ c. a c *ℤ Y (p c)) (λ c. a c *ℤ s c *ℤ Y (q c))
    ∙ ap₂ (λ x y. x +ℤ y) (scatter n m a p Y hp) (scatter n m (λ c. a c *ℤ s c) q Y hq)
    ∙ sum_of m (λ k. sum_z n (λ c. a c *ℤ delta (p c) k)) (λ k. sum_z n (λ c. a c *ℤ s c *ℤ delta (q c) k)) _ Y (λ k h. refl)
