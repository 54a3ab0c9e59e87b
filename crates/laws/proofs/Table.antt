-- A rule at every index below n, proved by one test that antt computes. Of a table of naturals with the rule `right`:
-- `at (length xs) (λ k. right k (get_or xs k 0)) tt k h`.
-- Assumes nothing.
use Prim.Native.Nat.{ℕ, zero, suc, ◌≤◌, ◌<◌, zero-le}
use mathlib.Core.Path.{◌≡◌, refl, ap, sym, subst}
use mathlib.Core.Bool.{Bool, true, false, ◌&&◌}
use mathlib.Core.List.{List}
use native.Mathlib.Nat.{not-suc-le-zero}
use native.Mathlib.Decide.{ℕ_discrete}
use native.Mathlib.Omega.{arith}
use lib.Dec.{T, eqb, leb, ltb, eqb→eq, leb→le}
use lib.ListN.{length, get_or, get_or-eq_default}
use lib.IntN.{ℤ, pos, negsuc, nat_abs}
use mir.Facts.{and_yes}
use borrow.Author.Tests.{ltb-true, ltb-false}
use Rattle.laws.specs.Integers.{Within}

-- ---- the test passes at every index below n
abbrev pub all_below : ℕ → (ℕ → Bool) → Bool
all_below zero f = true
all_below (suc n) f = all_below n f && f n

pub at : (n : ℕ) (f : ℕ → Bool) → T (all_below n f) → (k : ℕ) → k < n → T (f k)
at zero f t k h = absurd (not-suc-le-zero h)
at (suc n) f t k h = go (at n f (and_yes (all_below n f) (f n) t).0) (ℕ_discrete k n)
  where
    go : ((j : ℕ) → j < n → T (f j)) → Dec (k ≡ n) → T (f k)
    go r (yes e) = subst (λ (j : ℕ). T (f j)) (sym e) (and_yes (all_below n f) (f n) t).1
    go r (no ne) = r k (omega arith)

-- ---- each entry of a table of integers is within b
pub table-within : (b : ℕ) (xs : List ℤ) → T (all_below (length xs) (λ k. leb (nat_abs (get_or xs k (pos 0))) b)) → Within b xs
table-within b xs t k = go (ltb k (length xs)) refl
  where
    go : (s : Bool) → ltb k (length xs) ≡ s → nat_abs (get_or xs k (pos 0)) ≤ b
    go true e = leb→le (nat_abs (get_or xs k (pos 0))) b (at (length xs) (λ j. leb (nat_abs (get_or xs j (pos 0))) b) t k (ltb-true k (length xs) e))
    go false e = rw (get_or-eq_default xs (pos 0) (ltb-false k (length xs) e)) zero-le

-- ---- a test of two integers
abbrev pub eq_z : ℤ → ℤ → Bool
eq_z (pos a) (pos b) = eqb a b
eq_z (pos a) (negsuc b) = false
eq_z (negsuc a) (pos b) = false
eq_z (negsuc a) (negsuc b) = eqb a b

pub eq_z→eq : (a b : ℤ) → T (eq_z a b) → a ≡ b
eq_z→eq (pos a) (pos b) t = ap pos (eqb→eq a b t)
eq_z→eq (pos a) (negsuc b) t = absurd t
eq_z→eq (negsuc a) (pos b) t = absurd t
eq_z→eq (negsuc a) (negsuc b) t = ap negsuc (eqb→eq a b t)
