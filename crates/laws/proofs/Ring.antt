-- The laws of the ring ℤ that `lib.IntN` lacks: sums in another order, the product over the sum, and signs moved out of a product.
-- Assumes nothing.
use Prim.Native.Nat.{zero, suc, ◌*◌}
use mathlib.Core.Path.{◌≡◌, refl, sym, ap, ap₂, ◌∙◌}
use lib.IntN.{ℤ, pos, negsuc, neg_ℤ, suc_ℤ, pred_ℤ, one, ◌+ℤ◌, ◌-ℤ◌, ◌*ℤ◌}
use lib.IntN.{+ℤ_assoc, +ℤ_comm, +ℤ_idl, suc_ℤ-+ℤ, pred_ℤ-+ℤ, *ℤ_comm, zero-*ℤ, *ℤ-one, suc_ℤ-*ℤ, pred_ℤ-*ℤ, neg_ℤ-neg_ℤ}

-- ---- sums in another order
left_comm : (a b c : ℤ) → a +ℤ (b +ℤ c) ≡ b +ℤ (a +ℤ c)
left_comm a b c = sym (+ℤ_assoc a b c) ∙ ap (λ x. x +ℤ c) (+ℤ_comm a b) ∙ +ℤ_assoc b a c

pub +ℤ-right-comm : (a b c : ℤ) → (a +ℤ b) +ℤ c ≡ (a +ℤ c) +ℤ b
+ℤ-right-comm a b c = +ℤ_assoc a b c ∙ ap (λ x. a +ℤ x) (+ℤ_comm b c) ∙ sym (+ℤ_assoc a c b)

pub +ℤ-swap : (a b c d : ℤ) → (a +ℤ b) +ℤ (c +ℤ d) ≡ (a +ℤ c) +ℤ (b +ℤ d)
+ℤ-swap a b c d = +ℤ_assoc a b (c +ℤ d) ∙ ap (λ x. a +ℤ x) (left_comm b c d) ∙ sym (+ℤ_assoc a c (b +ℤ d))

-- ---- signs
pub neg-*ℤ : (a b : ℤ) → neg_ℤ a *ℤ b ≡ neg_ℤ (a *ℤ b)
neg-*ℤ (pos zero) b = zero-*ℤ b ∙ ap neg_ℤ (sym (zero-*ℤ b))
neg-*ℤ (pos (suc a)) (pos b) = refl
neg-*ℤ (pos (suc a)) (negsuc b) = sym (neg_ℤ-neg_ℤ (pos (suc a * suc b)))
neg-*ℤ (negsuc a) (pos b) = sym (neg_ℤ-neg_ℤ (pos (suc a * b)))
neg-*ℤ (negsuc a) (negsuc b) = refl

pub one-*ℤ : (z : ℤ) → pos 1 *ℤ z ≡ z
unfolding one
one-*ℤ z = *ℤ_comm (pos 1) z ∙ *ℤ-one z

pub minus-one-*ℤ : (z : ℤ) → negsuc 0 *ℤ z ≡ neg_ℤ z
minus-one-*ℤ z = neg-*ℤ (pos 1) z ∙ ap neg_ℤ (one-*ℤ z)

-- ---- the product over the sum, by steps of one up and one down from 0
steps : (P : ℤ → Type 0) → P (pos zero) → ((a : ℤ) → P a → P (suc_ℤ a)) → ((a : ℤ) → P a → P (pred_ℤ a)) → (k : ℤ) → P k
steps P z s p (pos zero) = z
steps P z s p (pos (suc n)) = s (pos n) (steps P z s p (pos n))
steps P z s p (negsuc zero) = p (pos zero) z
steps P z s p (negsuc (suc n)) = p (negsuc n) (steps P z s p (negsuc n))

pub +ℤ-*ℤ : (a b c : ℤ) → (a +ℤ b) *ℤ c ≡ a *ℤ c +ℤ b *ℤ c
+ℤ-*ℤ a b c =
    steps (λ x. (x +ℤ b) *ℤ c ≡ x *ℤ c +ℤ b *ℤ c)
    (ap (λ x. x *ℤ c) (+ℤ_idl b) ∙ sym (ap (λ x. x +ℤ b *ℤ c) (zero-*ℤ c) ∙ +ℤ_idl (b *ℤ c)))
    (λ x h.
    ap (λ y. y *ℤ c) (suc_ℤ-+ℤ x b) ∙ suc_ℤ-*ℤ (x +ℤ b) c ∙ ap (λ y. y +ℤ c) h ∙ +ℤ-right-comm (x *ℤ c) (b *ℤ c) c
    ∙ ap (λ y. y +ℤ b *ℤ c) (sym (suc_ℤ-*ℤ x c)))
    (λ x h.
    ap (λ y. y *ℤ c) (pred_ℤ-+ℤ x b) ∙ pred_ℤ-*ℤ (x +ℤ b) c ∙ ap (λ y. y -ℤ c) h ∙ +ℤ-right-comm (x *ℤ c) (b *ℤ c) (neg_ℤ c)
    ∙ ap (λ y. y +ℤ b *ℤ c) (sym (pred_ℤ-*ℤ x c)))
    a

pub *ℤ-+ℤ : (a b c : ℤ) → a *ℤ (b +ℤ c) ≡ a *ℤ b +ℤ a *ℤ c
*ℤ-+ℤ a b c = *ℤ_comm a (b +ℤ c) ∙ +ℤ-*ℤ b c a ∙ ap₂ (λ x y. x +ℤ y) (*ℤ_comm b a) (*ℤ_comm c a)

pub *ℤ-assoc : (a b c : ℤ) → (a *ℤ b) *ℤ c ≡ a *ℤ (b *ℤ c)
*ℤ-assoc a b c =
    steps (λ x. (x *ℤ b) *ℤ c ≡ x *ℤ (b *ℤ c))
    (ap (λ x. x *ℤ c) (zero-*ℤ b) ∙ zero-*ℤ c ∙ sym (zero-*ℤ (b *ℤ c)))
    (λ x h. ap (λ y. y *ℤ c) (suc_ℤ-*ℤ x b) ∙ +ℤ-*ℤ (x *ℤ b) b c ∙ ap (λ y. y +ℤ b *ℤ c) h ∙ sym (suc_ℤ-*ℤ x (b *ℤ c)))
    (λ x h.
    ap (λ y. y *ℤ c) (pred_ℤ-*ℤ x b) ∙ +ℤ-*ℤ (x *ℤ b) (neg_ℤ b) c ∙ ap₂ (λ y z. y +ℤ z) h (neg-*ℤ b c)
    ∙ sym (pred_ℤ-*ℤ x (b *ℤ c)))
    a
