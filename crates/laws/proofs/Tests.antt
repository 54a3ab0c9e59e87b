-- Laws of tests: conjunctions, lists of tests, and the place of a number in a list.
-- Assumes nothing.
use Prim.Native.Nat.{ℕ, zero, suc, ◌+◌, ◌≤◌, ◌<◌}
use mathlib.Core.Path.{◌≡◌, refl, sym, ap, ◌∙◌}
use mathlib.Core.Bool.{Bool, true, false, ◌&&◌, ◌||◌, false≢true}
use mathlib.Core.List.{List, [], ◌∷◌}
use native.Mathlib.Nat.{le_antisymm}
use native.Mathlib.Omega.{arith}
use lib.Dec.{eqb}
use lib.ListN.{length, get_or, drop, drop_of_length-le}
use lib.Seq.{drop-cons}
use native.Mathlib.Numerals.{add-one}
use borrow.Author.Tests.{eqb-true, eq-eqb, ne_eqb, ltb-true, ltb-false}
use Rattle.std.specs.Prelude.{if◌then◌else◌}
use Rattle.std.specs.List.{position_or_len, list_any}
use Rattle.std.proofs.lemmas.Bool.Decides.{nat_tests}
use Rattle.std.proofs.lemmas.List.Recursion.{is_position_or_len, same_from_clauses}
use Rattle.laws.specs.Lists.{all_of, index_of, listed, place_in}

-- ---- conjunctions
pub and_left : (a b : Bool) → (a && b) ≡ true → a ≡ true
and_left true b e = refl
and_left false b e = e

pub and_right : (a b : Bool) → (a && b) ≡ true → b ≡ true
and_right true b e = e
and_right false b e = absurd (false≢true e)

-- where all tests of a list pass, each does
pub all_true : (ts : List Bool) (i : ℕ) → all_of ts ≡ true → get_or ts i true ≡ true
unfolding all_of
all_true [] i e = refl
all_true (t ∷ ts) zero e = and_left t (all_of ts) e
all_true (t ∷ ts) (suc i) e = all_true ts i (and_right t (all_of ts) e)

-- where one test fails, not all pass
pub all-false : (ts : List Bool) (i : ℕ) → get_or ts i true ≡ false → all_of ts ≡ false
unfolding all_of
all-false [] i e = e
all-false (t ∷ ts) zero e = rw e
all-false (true ∷ ts) (suc i) e = all-false ts i e
all-false (false ∷ ts) (suc i) e = refl

pub and-true : (b : Bool) → (b && true) ≡ b
and-true true = refl
and-true false = refl

-- ---- the place of a number in a list
index-cons : (x y : ℕ) (ys : List ℕ) (t : Bool) → eqb x y ≡ t → index_of x (y ∷ ys) ≡ (if t then 0 else suc (index_of x ys))
unfolding index_of
index-cons x y ys t e = rw e

module _ (x : ℕ) (xs : List ℕ) (i : ℕ) where
  -- a search that has come to place i: found there, not there, and at the end
  pub index_here : i < length xs → x ≡ get_or xs i 0 → index_of x (drop i xs) ≡ 0
  index_here h e = ap (index_of x) (drop-cons xs i 0 h) ∙ index-cons x (get_or xs i 0) (drop (suc i) xs) true (eq-eqb x (get_or xs i 0) e)

  pub index_next : i < length xs → (x ≡ get_or xs i 0 → ⊥) → index_of x (drop i xs) ≡ suc (index_of x (drop (i + 1) xs))
  index_next h e =
      ap (index_of x) (drop-cons xs i 0 h) ∙ index-cons x (get_or xs i 0) (drop (suc i) xs) false (ne_eqb x (get_or xs i 0) e)
      ∙ ap (λ (k : ℕ). suc (index_of x (drop k xs))) (sym (add-one i))

  pub index_end : length xs ≤ i → index_of x (drop i xs) ≡ 0
  unfolding index_of
  index_end h = ap (index_of x) (drop_of_length-le xs h)

-- the library's words for them: the first place at which a test for the number passes, and whether it passes at all
pub index_is : (x : ℕ) (ys : List ℕ) → index_of x ys ≡ position_or_len (eqb x) ys
unfolding index_of
index_is x = is_position_or_len (index_of x) (eqb x) refl
    (λ y ys. let one-more : suc (index_of x ys) ≡ 1 + index_of x ys = omega arith in rw (← one-more) (index-cons x y ys (eqb x y) refl))

pub listed_is : (x : ℕ) (ys : List ℕ) → listed x ys ≡ list_any (λ y. eqb y x) ys
unfolding listed index_of
listed_is x ys = same_from_clauses (listed x) (list_any (λ y. eqb y x)) (λ y b. eqb y x || b) refl (λ y ys. go y ys (eqb x y) refl) (λ y ys. refl) ys
  where
    go : (y : ℕ) (ys : List ℕ) (t : Bool) → eqb x y ≡ t → listed x (y ∷ ys) ≡ (eqb y x || listed x ys)
    go y ys true e = rw (index-cons x y ys true e, eq-eqb y x (sym (eqb-true x y e))) (grind (arith, nat_tests))
    go y ys false e = rw (index-cons x y ys false e, ne_eqb y x (λ q. false≢true (sym e ∙ eq-eqb x y (sym q)))) (grind (arith, nat_tests))

-- a number of the list stands at its place
back : (x : ℕ) (ys : List ℕ) → index_of x ys < length ys → get_or ys (index_of x ys) 0 ≡ x
back x [] h = absurd (omega arith)
back x (y ∷ ys) h = go (eqb x y) refl (back x ys)
  where
    go : (t : Bool) → eqb x y ≡ t → (index_of x ys < length ys → get_or ys (index_of x ys) 0 ≡ x) → get_or (y ∷ ys) (index_of x (y ∷ ys)) 0 ≡ x
    go true e r = ap (λ (k : ℕ). get_or (y ∷ ys) k 0) (index-cons x y ys true e) ∙ sym (eqb-true x y e)
    go false e r = ap (λ (k : ℕ). get_or (y ∷ ys) k 0) (index-cons x y ys false e) ∙ r (omega (arith, index-cons x y ys false e))

-- the place of a number in a list is at most the list's length, which stands for a number that is not in it
pub index-at-most : (x : ℕ) (ys : List ℕ) → index_of x ys ≤ length ys
unfolding index_of
index-at-most x [] = omega arith
index-at-most x (y ∷ ys) = go (eqb x y) refl (index-at-most x ys)
  where
    go : (t : Bool) → eqb x y ≡ t → index_of x ys ≤ length ys → index_of x (y ∷ ys) ≤ suc (length ys)
    go true e h = omega (arith, index-cons x y ys true e)
    go false e h = omega (arith, index-cons x y ys false e)

pub unlisted : (x : ℕ) (ys : List ℕ) → listed x ys ≡ false → index_of x ys ≡ length ys
unfolding listed
unlisted x ys e = le_antisymm (index-at-most x ys) (ltb-false (index_of x ys) (length ys) e)

pub listed-lt : (x : ℕ) (ys : List ℕ) → listed x ys ≡ true → index_of x ys < length ys
unfolding listed
listed-lt x ys e = ltb-true (index_of x ys) (length ys) e

pub listed_back : (x : ℕ) (ys : List ℕ) → listed x ys ≡ true → get_or ys (index_of x ys) 0 ≡ x
listed_back x ys e = back x ys (listed-lt x ys e)

-- what holds of each number of a list holds of a number that is listed
pub listed-cases : (P : ℕ → Type 0) (x : ℕ) (ys : List ℕ) → listed x ys ≡ true → ((i : ℕ) → i < length ys → P (get_or ys i 0)) → P x
listed-cases P x ys e h = rw (listed_back x ys e) at (h (index_of x ys) (listed-lt x ys e))

-- the index of a value is one of its list, and what stands there is the value, where it is listed
pub place-lt : (x : ℕ) (xs : List ℕ) → 0 < length xs → place_in x xs < length xs
unfolding place_in
place-lt x xs h = go (listed x xs) refl
  where
    go : (t : Bool) → listed x xs ≡ t → (if t then index_of x xs else 0) < length xs
    go true e = listed-lt x xs e
    go false e = h

pub place-back : (x : ℕ) (xs : List ℕ) → listed x xs ≡ true → get_or xs (place_in x xs) 0 ≡ x
unfolding place_in
place-back x xs h = rw h (listed_back x xs h)
