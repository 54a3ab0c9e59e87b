-- Integers by their absolute value: of a negation, a sum, a difference and a product; and that a number within a bound fits a width.
-- Assumes nothing.
use Prim.Native.Nat.{ℕ, zero, suc, ◌+◌, ◌*◌, ◌^◌, ◌≤◌, ◌<◌}
use mathlib.Core.Path.{◌≡◌, refl, sym, subst}
use native.Mathlib.Nat.{le_refl, le-suc, le_trans, lt_of_le_of_lt, add-le-add, mul-le-mul}
use native.Mathlib.Omega.{arith}
use lib.Dec.{lit≤}
use lib.IntN.{ℤ, pos, negsuc, neg_ℤ, nat_abs, ◌+ℤ◌, ◌-ℤ◌, ◌*ℤ◌}
use lib.Signed.{mag}
use mir.Syntax.{Width, w32, w64}
use mir.Val.{SFits, hbits, to_z, of_z}
use mir.Facts.{to_z-of_z}
use Rattle.laws.proofs.Difference.{abs-sub-le}

-- ---- the operations
pub nat_abs-neg : (z : ℤ) → nat_abs (neg_ℤ z) ≡ nat_abs z
nat_abs-neg (pos zero) = refl
nat_abs-neg (pos (suc n)) = refl
nat_abs-neg (negsuc n) = refl

pub nat_abs-+ : (a b : ℤ) → nat_abs (a +ℤ b) ≤ nat_abs a + nat_abs b
nat_abs-+ (pos a) (pos b) = le_refl (a + b)
nat_abs-+ (pos a) (negsuc b) = abs-sub-le a (suc b) (a + suc b) (omega arith) (omega arith)
nat_abs-+ (negsuc a) (pos b) = abs-sub-le b (suc a) (suc a + b) (omega arith) (omega arith)
nat_abs-+ (negsuc a) (negsuc b) = omega arith

pub nat_abs-- : (a b : ℤ) → nat_abs (a -ℤ b) ≤ nat_abs a + nat_abs b
nat_abs-- a b = subst (λ (n : ℕ). nat_abs (a -ℤ b) ≤ nat_abs a + n) (nat_abs-neg b) (nat_abs-+ a (neg_ℤ b))

nat_abs-* : (a b : ℤ) → nat_abs (a *ℤ b) ≡ nat_abs a * nat_abs b
nat_abs-* (pos a) (pos b) = refl
nat_abs-* (pos a) (negsuc b) = nat_abs-neg (pos (a * suc b))
nat_abs-* (negsuc a) (pos b) = nat_abs-neg (pos (suc a * b))
nat_abs-* (negsuc a) (negsuc b) = refl

-- the product of two numbers within m and n is within m * n
pub nat_abs-*-le : (a b : ℤ) {m n : ℕ} → nat_abs a ≤ m → nat_abs b ≤ n → nat_abs (a *ℤ b) ≤ m * n
nat_abs-*-le a b {m} {n} h k = subst (λ (x : ℕ). x ≤ m * n) (sym (nat_abs-* a b)) (mul-le-mul h k)

-- ---- ranges: what is small fits, and what fits is small
mag-le : (z : ℤ) → mag z ≤ nat_abs z
mag-le (pos n) = le_refl n
mag-le (negsuc n) = le-suc n

pub sfits-abs : {w : Width} {z : ℤ} → nat_abs z < 2 ^ hbits w → SFits w z
sfits-abs {w} {z} h = record { sfits = lt_of_le_of_lt (mag-le z) h }

pub abs-sfits : {w : Width} {z : ℤ} → SFits w z → nat_abs z ≤ 2 ^ hbits w
abs-sfits {w} {z = pos n} h = omega (arith, h.sfits)
abs-sfits {w} {z = negsuc n} h = omega (arith, h.sfits)

-- a number within b, and a sum and a difference of numbers within a and b, at any width that holds the bound
pub within-fits : (w : Width) {b : ℕ} (z : ℤ) → nat_abs z ≤ b → b < 2 ^ hbits w → SFits w z
within-fits w z h k = sfits-abs (lt_of_le_of_lt h k)

pub sum_fits : (w : Width) {a b : ℕ} (y z : ℤ) → nat_abs y ≤ a → nat_abs z ≤ b → a + b < 2 ^ hbits w → SFits w (y +ℤ z)
sum_fits w y z h k l = within-fits w (y +ℤ z) (le_trans (nat_abs-+ y z) (add-le-add h k)) l

pub difference-fits : (w : Width) {a b : ℕ} (y z : ℤ) → nat_abs y ≤ a → nat_abs z ≤ b → a + b < 2 ^ hbits w → SFits w (y -ℤ z)
difference-fits w y z h k l = within-fits w (y -ℤ z) (le_trans (nat_abs-- y z) (add-le-add h k)) l

-- the product of two i32 fits an i64
pub product-fits : {a b : ℤ} → SFits w32 a → SFits w32 b → SFits w64 (a *ℤ b)
product-fits {a} {b} h k = within-fits w64 (a *ℤ b) (nat_abs-*-le a b (abs-sfits h) (abs-sfits k)) (lit≤ tt)

-- a signed number is had back from its bits, given its range as a call has it (`c.f.ok`)
pub read_back : (w : Width) {z : ℤ} → mag z < 2 ^ hbits w → to_z w (of_z w z) ≡ z
read_back w h = to_z-of_z {w = w} (record { sfits = h })
