-- Entries of arrays, as the machine reads them back from their bits, and their sums and differences: that they fit, and what they are.
-- Assumes nothing.
use Prim.Native.Nat.{ℕ, ◌+◌, ◌^◌, ◌≤◌, ◌<◌}
use mathlib.Core.Path.{◌≡◌, sym, ap, ap₂, ◌∙◌, subst}
use mathlib.Core.List.{List}
use native.Mathlib.Nat.{le_trans}
use native.Mathlib.Omega.{arith}
use lib.ListN.{get_or}
use lib.IntN.{ℤ, pos, nat_abs, ◌+ℤ◌, ◌-ℤ◌, ◌*ℤ◌}
use mir.Syntax.{Width}
use mir.Val.{SFits, hbits, to_z, of_z}
use mir.Facts.{to_z-of_z}
use Rattle.laws.specs.Integers.{Within, floor_div}
use Rattle.laws.proofs.Abs.{nat_abs-*-le, within-fits, sum_fits, difference-fits}
use Rattle.laws.proofs.Floor.{floor-fits}

-- an entry of an array within a
pub read-entry : (w : Width) (xs : List ℤ) {a : ℕ} → Within a xs → a < 2 ^ hbits w → (i : ℕ)
    → to_z w (of_z w (get_or xs i (pos 0))) ≡ get_or xs i (pos 0)
read-entry w xs p l i = to_z-of_z (within-fits w (get_or xs i (pos 0)) (p i) l)

pub read-within : (w : Width) (xs : List ℤ) {a : ℕ} → Within a xs → a < 2 ^ hbits w → (i : ℕ)
    → nat_abs (to_z w (of_z w (get_or xs i (pos 0)))) ≤ a
read-within w xs {a} p l i = subst (λ (z : ℤ). nat_abs z ≤ a) (sym (read-entry w xs p l i)) (p i)

-- and a number that is divided
pub read-divided : (w : Width) (z : ℤ) (m : ℕ) → SFits w z → to_z w (of_z w (floor_div (to_z w (of_z w z)) m)) ≡ floor_div z m
read-divided w z m h = ap (λ (y : ℤ). to_z w (of_z w (floor_div y m))) (to_z-of_z h) ∙ to_z-of_z (floor-fits z m h)

-- a number within a with a sign put on, which is within 1
pub signed-small : (s z : ℤ) {a : ℕ} → nat_abs s ≤ 1 → nat_abs z ≤ a → nat_abs (s *ℤ z) ≤ a
signed-small s z h k = le_trans (nat_abs-*-le s z h k) (omega arith)

pub signed-fits : (w : Width) (s z : ℤ) {a : ℕ} → nat_abs s ≤ 1 → nat_abs z ≤ a → a < 2 ^ hbits w → SFits w (s *ℤ z)
signed-fits w s z h k l = within-fits w (s *ℤ z) (signed-small s z h k) l

-- two entries of arrays within a and b, where a + b is in the range
module _ (w : Width) (xs ys : List ℤ) {a b : ℕ} (p : Within a xs) (q : Within b ys) (l : a + b < 2 ^ hbits w) (i j : ℕ) where
  plus : to_z w (of_z w (get_or xs i (pos 0))) +ℤ to_z w (of_z w (get_or ys j (pos 0))) ≡ get_or xs i (pos 0) +ℤ get_or ys j (pos 0)
  plus = ap₂ (λ (u v : ℤ). u +ℤ v) (read-entry w xs p (omega arith) i) (read-entry w ys q (omega arith) j)

  minus : to_z w (of_z w (get_or xs i (pos 0))) -ℤ to_z w (of_z w (get_or ys j (pos 0))) ≡ get_or xs i (pos 0) -ℤ get_or ys j (pos 0)
  minus = ap₂ (λ (u v : ℤ). u -ℤ v) (read-entry w xs p (omega arith) i) (read-entry w ys q (omega arith) j)

  pub plus-fits : SFits w (to_z w (of_z w (get_or xs i (pos 0))) +ℤ to_z w (of_z w (get_or ys j (pos 0))))
  plus-fits = subst (SFits w) (sym plus) (sum_fits w (get_or xs i (pos 0)) (get_or ys j (pos 0)) (p i) (q j) l)

  pub minus-fits : SFits w (to_z w (of_z w (get_or xs i (pos 0))) -ℤ to_z w (of_z w (get_or ys j (pos 0))))
  minus-fits = subst (SFits w) (sym minus) (difference-fits w (get_or xs i (pos 0)) (get_or ys j (pos 0)) (p i) (q j) l)

  pub read-plus : to_z w (of_z w (to_z w (of_z w (get_or xs i (pos 0))) +ℤ to_z w (of_z w (get_or ys j (pos 0)))))
      ≡ get_or xs i (pos 0) +ℤ get_or ys j (pos 0)
  read-plus = to_z-of_z plus-fits ∙ plus

  pub read-minus : to_z w (of_z w (to_z w (of_z w (get_or xs i (pos 0))) -ℤ to_z w (of_z w (get_or ys j (pos 0)))))
      ≡ get_or xs i (pos 0) -ℤ get_or ys j (pos 0)
  read-minus = to_z-of_z minus-fits ∙ minus
