-- The chains of `distance` over pairs of samples give the measures, which go by the samples' places:
-- by induction on two lists of one length.
-- Assumes nothing.
use Prim.Native.Nat.{ℕ, zero, suc, ◌+◌, max}
use mathlib.Core.Path.{◌≡◌, refl, sym, ap, ap₂, ◌∙◌}
use mathlib.Core.Bool.{Bool, true, false, not, cond}
use mathlib.Core.List.{List, [], ◌∷◌, map}
use native.Mathlib.Nat.{max-zero}
use native.Mathlib.Omega.{arith}
use borrow.Author.Tests.{eqb-true, eq-eqb}
use lib.Dec.{eqb}
use lib.IntN.{ℤ, pos}
use lib.ListN.{length, get_or}
use Rattle.std.specs.Prelude.{fold, count_by, Decides, if◌then◌else◌}
use Rattle.std.specs.List.{zip}
use Rattle.std.specs.Ordering.{int_eq}
use Rattle.std.proofs.lemmas.Bool.Decides.{Decides-int_eq, same_from_decides}
use Rattle.std.proofs.lemmas.Int.{ints}
use Rattle.std.proofs.lemmas.List.Sums.{sum_by-cons}
use Rattle.laws.specs.Lists.{total, greatest}
use Rattle.sbc_figures.specs.Distance.{apart, unequal, differing, farthest}

-- ---- how many differ
-- a sum with its first term split off
total-first : (n : ℕ) (f : ℕ → ℕ) → total (suc n) f ≡ f 0 + total n (λ i. f (suc i))
unfolding total
total-first zero f = omega arith
total-first (suc n) f = ap (λ k. k + f (suc n)) (total-first n f) ∙ omega arith

-- the distance is 0 exactly where `==` answers that the samples are the same
apart-none : (a b : ℤ) → Decides (eqb (apart a b) 0) (a ≡ b)
unfolding apart
apart-none a b = (λ t. omega (arith, ints, eqb-true (apart a b) 0 t), λ e. eq-eqb (apart a b) 0 (omega (arith, ints, e)))

abbrev one_unless : Bool → ℕ
one_unless t = if t then 0 else 1

by-not : (t : Bool) → ◌≡◌ {A = ℕ} (cond (not t) 1 0) (one_unless t)
by-not true = refl
by-not false = refl

-- as `!=` counts a pair
counted-pair : (a b : ℤ) → ◌≡◌ {A = ℕ} (cond (not (int_eq a b)) 1 0) (unequal a b)
unfolding unequal
counted-pair a b =
    by-not (int_eq a b)
    ∙ ap one_unless (same_from_decides (int_eq a b) (eqb (apart a b) 0) (Decides-int_eq a b) (apart-none a b))

count-pairs : (xs ys : List ℤ) → length xs ≡ length ys → count_by (λ pair. not (int_eq pair.0 pair.1)) (zip xs ys) ≡ differing xs ys
unfolding differing total
count-pairs [] ys e = refl
count-pairs (x ∷ xs) [] e = absurd (omega (arith, e))
count-pairs (x ∷ xs) (y ∷ ys) e =
    sum_by-cons (λ pair. cond (not (int_eq pair.0 pair.1)) 1 0) (x, y) (zip xs ys)
    ∙ ap₂ (λ (m n : ℕ). m + n) (counted-pair x y) (count-pairs xs ys (omega (arith, e)))
    ∙ sym (total-first (length xs) (λ i. unequal (get_or (x ∷ xs) i (pos 0)) (get_or (y ∷ ys) i (pos 0))))

-- as many pairs as `!=` finds, as many samples differ
pub counted : (n : ℕ) (xs ys : List ℤ) → length xs ≡ length ys → n ≡ count_by (λ pair. not (int_eq pair.0 pair.1)) (zip xs ys)
    → n ≡ differing xs ys
counted n xs ys e q = q ∙ count-pairs xs ys e

-- ---- the greatest distance
max-assoc : (a b c : ℕ) → max (max a b) c ≡ max a (max b c)
max-assoc a b c = omega arith

max-none : (a : ℕ) → max 0 a ≡ a
max-none a = omega arith

-- the greatest of terms with the first split off
greatest-first : (n : ℕ) (f : ℕ → ℕ) → greatest (suc n) f ≡ max (f 0) (greatest n (λ i. f (suc i)))
unfolding greatest
greatest-first zero f = omega arith
greatest-first (suc n) f =
    ap (λ k. max k (f (suc n))) (greatest-first n f) ∙ max-assoc (f 0) (greatest n (λ i. f (suc i))) (f (suc n))

-- a fold from a number other than 0
fold-from : (a : ℕ) (ns : List ℕ) → fold max a ns ≡ max a (fold max 0 ns)
fold-from a [] = sym (max-zero a)
fold-from a (n ∷ ns) =
    let first : fold max 0 (n ∷ ns) ≡ max n (fold max 0 ns) = ap (λ (m : ℕ). fold max m ns) (max-none n) ∙ fold-from n ns in
    fold-from (max a n) ns ∙ max-assoc a n (fold max 0 ns) ∙ ap (λ k. max a k) (sym first)

fold-pairs : (xs ys : List ℤ) → length xs ≡ length ys → fold max 0 (map (λ pair. apart pair.0 pair.1) (zip xs ys)) ≡ farthest xs ys
unfolding farthest greatest
fold-pairs [] ys e = refl
fold-pairs (x ∷ xs) [] e = absurd (omega (arith, e))
fold-pairs (x ∷ xs) (y ∷ ys) e =
    ap (λ (m : ℕ). fold max m (map (λ pair. apart pair.0 pair.1) (zip xs ys))) (max-none (apart x y))
    ∙ fold-from (apart x y) (map (λ pair. apart pair.0 pair.1) (zip xs ys))
    ∙ ap (λ k. max (apart x y) k) (fold-pairs xs ys (omega (arith, e)))
    ∙ sym (greatest-first (length xs) (λ i. apart (get_or (x ∷ xs) i (pos 0)) (get_or (y ∷ ys) i (pos 0))))

-- the greatest of the pairs' distances is that of the samples
pub seen : (n : ℕ) (xs ys : List ℤ) → length xs ≡ length ys
    → n ≡ fold max 0 (map (λ pair. apart pair.0 pair.1) (zip xs ys)) → n ≡ farthest xs ys
seen n xs ys e q = q ∙ fold-pairs xs ys e
