-- An integer in terms of naturals, so that a fact about ℤ becomes one about ℕ, which `omega` proves: as a difference `sub_ℕ a b`, which sums,
-- differences and multiples keep (bring the fact into this form by `rw`), or as two atoms `up z` and `down z`, with one law an operation.
-- Assumes nothing.
use Prim.Native.Nat.{ℕ, zero, suc, ◌+◌, ◌*◌, ◌-◌, ◌/◌, ◌^◌, ◌≤◌, ◌<◌, zero-le}
use mathlib.Core.Path.{◌≡◌, refl, sym, ap, ap₂, ◌∙◌, subst}
use mathlib.Core.Bool.{Bool, true, false, cond, true≢false}
use native.Mathlib.Nat.{mul-zero, zero-div}
use native.Mathlib.Omega.{arith}
use lib.Dec.{ltb, ltb→lt}
use lib.Pow.{pow_pos}
use lib.IntN.{ℤ, pos, negsuc, neg_ℤ, nat_abs, sub_ℕ, pred_ℤ, ◌+ℤ◌, ◌-ℤ◌, ◌*ℤ◌, +ℤ_comm, +ℤ_idl, neg_ℤ-+ℤ, neg_ℤ-neg_ℤ}
use lib.Signed.{le_z, lt_z, quot_z, ◌<ℤ◌}
use mir.Syntax.{Width}
use mir.Val.{SFits, hbits}
use borrow.Author.Tests.{ltb-true, ltb-false, leb-true, leb-false, lt-ltb, le-ltb}
use Rattle.laws.proofs.Ring.{+ℤ-swap}

-- ======== as a difference of two naturals

-- ---- by the order of the two
pub sub-of-le : (a b : ℕ) → b ≤ a → sub_ℕ a b ≡ pos (a - b)
sub-of-le a b h = rw (le-ltb a b h)

pub sub-of-lt : (a b : ℕ) → a < b → sub_ℕ a b ≡ negsuc (b - suc a)
sub-of-lt a b h = rw (lt-ltb a b h)

-- what holds in each of the two cases holds of the difference
pub sub_cases : (P : ℤ → Type 0) (a b : ℕ) → (a < b → P (negsuc (b - suc a))) → (b ≤ a → P (pos (a - b))) → P (sub_ℕ a b)
sub_cases P a b f g = go (ltb a b) refl
  where
    go : (t : Bool) → ltb a b ≡ t → P (cond t (negsuc (b - suc a)) (pos (a - b)))
    go true e = f (ltb-true a b e)
    go false e = g (ltb-false a b e)

-- ---- what is a difference
pub pos-is-sub : (a : ℕ) → pos a ≡ sub_ℕ a 0
pos-is-sub a = let e : a ≡ a - 0 = omega arith in ap pos e ∙ sym (sub-of-le a 0 zero-le)

pub pos-sub : (a b : ℕ) → pos a -ℤ pos b ≡ sub_ℕ a b
pos-sub a zero = let e : a + 0 ≡ a = omega arith in ap pos e ∙ pos-is-sub a
pos-sub a (suc b) = refl

-- ---- the operations on differences
plus-sub : (a b c d : ℕ) → sub_ℕ a b +ℤ sub_ℕ c d ≡ sub_ℕ (a + c) (b + d)
plus-sub a b c d =
    ap₂ (λ x y. x +ℤ y) (sym (pos-sub a b)) (sym (pos-sub c d)) ∙ +ℤ-swap (pos a) (neg_ℤ (pos b)) (pos c) (neg_ℤ (pos d))
    ∙ ap (λ x. pos (a + c) +ℤ x) (sym (neg_ℤ-+ℤ (pos b) (pos d)))
    ∙ pos-sub (a + c) (b + d)

neg-sub : (a b : ℕ) → neg_ℤ (sub_ℕ a b) ≡ sub_ℕ b a
neg-sub a b =
    ap neg_ℤ (sym (pos-sub a b)) ∙ neg_ℤ-+ℤ (pos a) (neg_ℤ (pos b)) ∙ ap (λ x. neg_ℤ (pos a) +ℤ x) (neg_ℤ-neg_ℤ (pos b))
    ∙ +ℤ_comm (neg_ℤ (pos a)) (pos b)
    ∙ pos-sub b a

pub sub-of-ge : (a b : ℕ) → a ≤ b → sub_ℕ a b ≡ neg_ℤ (pos (b - a))
sub-of-ge a b h = sym (neg-sub b a) ∙ ap neg_ℤ (sub-of-le b a h)

pub sub-add : (a b c : ℕ) → sub_ℕ a b +ℤ pos c ≡ sub_ℕ (a + c) b
sub-add a b c = let e : b + 0 ≡ b = omega arith in ap (λ x. sub_ℕ a b +ℤ x) (pos-is-sub c) ∙ plus-sub a b c 0 ∙ ap (sub_ℕ (a + c)) e

pub times-neg : (k n : ℕ) → pos k *ℤ neg_ℤ (pos n) ≡ neg_ℤ (pos (k * n))
times-neg k zero = ap pos (mul-zero k) ∙ sym (ap (λ (x : ℕ). neg_ℤ (pos x)) (mul-zero k))
times-neg k (suc n) = refl

-- division toward zero of a negated number
pub quot-neg : (n d : ℕ) → quot_z (neg_ℤ (pos n)) (pos d) ≡ neg_ℤ (pos (n / d))
quot-neg zero d = ap pos (zero-div d) ∙ sym (ap (λ (x : ℕ). neg_ℤ (pos x)) (zero-div d))
quot-neg (suc n) d = refl

-- ---- bounds
pub abs-sub-le : (a b n : ℕ) → a ≤ b + n → b ≤ a + n → nat_abs (sub_ℕ a b) ≤ n
abs-sub-le a b n h k = sub_cases (λ z. nat_abs z ≤ n) a b (λ l. omega arith) (λ l. omega arith)

-- from -limit up to but not including limit: z + limit is a natural below twice the limit
pub record FromLow (limit : ℕ) (z : ℤ) : Type 0 where
  pub from_low : ℕ
  pub is : z ≡ sub_ℕ from_low limit
  pub sum : z +ℤ pos limit ≡ pos from_low
  pub below : from_low < limit + limit

pub in-range : (limit : ℕ) (z : ℤ) → le_z (pos limit) z ≡ false → lt_z z (neg_ℤ (pos limit)) ≡ false → FromLow limit z
in-range limit (pos n) h k =
    let l = leb-false limit n h in
    let e : n ≡ n + limit - limit = omega arith in
    let g : limit ≤ n + limit = omega arith in
    record { from_low = n + limit; is = ap pos e ∙ sym (sub-of-le (n + limit) limit g); sum = refl; below = omega arith }
in-range zero (negsuc n) h k = absurd (true≢false k)
in-range (suc m) (negsuc n) h k =
    let l = ltb-false m n k in
    let e : suc m - suc (suc m - suc n) ≡ n = omega arith in
    let b : suc m - suc n < suc m + suc m = omega arith in
    record {
      from_low = suc m - suc n;
      is = sym (sub-of-lt (suc m - suc n) (suc m) (omega arith) ∙ ap negsuc e);
      sum = sub-of-le (suc m) (suc n) (omega arith);
      below = b;
    }

-- a negated number fits a width
pub minus-fits : {w : Width} (n : ℕ) → n ≤ 2 ^ hbits w → SFits w (pos 0 -ℤ pos n)
minus-fits {w} n h = subst (SFits w) (sym (+ℤ_idl (neg_ℤ (pos n)))) (negated n h)
  where
    negated : (m : ℕ) → m ≤ 2 ^ hbits w → SFits w (neg_ℤ (pos m))
    negated zero l = record { sfits = pow_pos (hbits w) }
    negated (suc m) l = record { sfits = l }

-- ======== as two atoms

-- z is up z - down z, and one of the two is 0
unfoldable pub up : ℤ → ℕ
up (pos n) = n
up (negsuc n) = 0

unfoldable pub down : ℤ → ℕ
down (pos n) = 0
down (negsuc n) = suc n

-- ---- the tests of order
pub le_yes : (a b : ℤ) → le_z a b ≡ true → up a + down b ≤ up b + down a
unfolding up down
le_yes (pos a) (pos b) e = omega (arith, leb-true a b e)
le_yes (pos a) (negsuc b) e = absurd (true≢false (sym e))
le_yes (negsuc a) (pos b) e = omega arith
le_yes (negsuc a) (negsuc b) e = omega (arith, leb-true b a e)

pub le-no : (a b : ℤ) → le_z a b ≡ false → up b + down a ≤ up a + down b
unfolding up down
le-no (pos a) (pos b) e = omega (arith, leb-false a b e)
le-no (pos a) (negsuc b) e = omega arith
le-no (negsuc a) (pos b) e = absurd (true≢false e)
le-no (negsuc a) (negsuc b) e = omega (arith, leb-false b a e)

pub lt-is : (a b : ℤ) → a <ℤ b → up a + down b < up b + down a
unfolding up down
lt-is (pos a) (pos b) h = omega (arith, ltb→lt a b h.lt)
lt-is (pos a) (negsuc b) h = absurd h.lt
lt-is (negsuc a) (pos b) h = omega arith
lt-is (negsuc a) (negsuc b) h = omega (arith, ltb→lt b a h.lt)

-- ---- the operations
pub pred-is : (z : ℤ) → up (pred_ℤ z) + down z + 1 ≡ up z + down (pred_ℤ z)
unfolding up down
pred-is (pos zero) = refl
pred-is (pos (suc n)) = omega arith
pred-is (negsuc n) = omega arith

sub-atoms : (a b : ℕ) → up (sub_ℕ a b) + b ≡ a + down (sub_ℕ a b)
unfolding up down
sub-atoms a b = sub_cases (λ z. up z + b ≡ a + down z) a b (λ l. omega arith) (λ l. omega arith)

pub sub_is : (z : ℤ) (k : ℕ) → up (z -ℤ pos k) + down z + k ≡ up z + down (z -ℤ pos k)
unfolding up down
sub_is (pos n) zero = omega arith
sub_is (pos n) (suc k) = omega (arith, sub-atoms n (suc k))
sub_is (negsuc n) zero = omega (arith, sub-atoms 0 (suc n))
sub_is (negsuc n) (suc k) = omega arith
