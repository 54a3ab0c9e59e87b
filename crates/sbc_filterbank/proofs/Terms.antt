-- The sum of at most four products of a matrix's cosines: its bound, and its next term as the machine reads the two factors.
-- Assumes nothing.
use Prim.Native.Nat.{ℕ, ◌+◌, ◌*◌, ◌^◌, ◌≤◌, zero-le}
use mathlib.Core.Path.{◌≡◌, refl, sym, ap, ap₂, ◌∙◌, subst}
use mathlib.Core.Bool.{Bool, true, false}
use mathlib.Core.List.{List, ◌∷◌}
use native.Mathlib.Nat.{le_trans, mul-le-mul_right, add-zero}
use native.Mathlib.Omega.{arith}
use lib.Dec.{ltb, lit<}
use lib.ListN.{length, get_or, take, drop}
use lib.IntN.{ℤ, pos, nat_abs, ◌+ℤ◌, ◌*ℤ◌}
use mir.Syntax.{w32}
use mir.Val.{to_z, of_z}
use borrow.Author.Tests.{ltb-true, ltb-false}
use Rattle.std.proofs.lemmas.List.{get_or-drop, get_or-take, get_or_past, length-drop, length-take, length-take-le, drop-drop}
use Rattle.laws.specs.Integers.{Within}
use Rattle.laws.specs.Sums.{sum_z}
use Rattle.laws.proofs.Abs.{nat_abs-*-le, within-fits}
use Rattle.laws.proofs.Sums.{sum_z-bound, sum_z-ext, next-sum}
use Rattle.sbc_filterbank.specs.Matrices.{product_of, product_term}

-- n products, at most four, of cosines and of values within a
pub products-within : (p x : ℕ → ℤ) (n a : ℕ) → ((k : ℕ) → nat_abs (p k) ≤ 2 ^ 30) → ((k : ℕ) → nat_abs (x k) ≤ a) → n ≤ 4
    → nat_abs (sum_z n (λ k. p k *ℤ x k)) ≤ 4 * (2 ^ 30 * a)
products-within p x n a wp wx h =
    le_trans (sum_z-bound n (2 ^ 30 * a) (λ k. p k *ℤ x k) (λ k l. nat_abs-*-le (p k) (x k) (wp k) (wx k)))
    (mul-le-mul_right (2 ^ 30 * a) h)

-- ---- a list of which n entries are taken, and x comes next
module _ (n : ℕ) (xs : List ℤ) (x : ℤ) (ys : List ℤ) (e : drop n xs ≡ x ∷ ys) where
  pub entry-taken : x ≡ get_or xs n (pos 0)
  entry-taken =
      sym (ap (λ (l : List ℤ). get_or l 0 (pos 0)) e) ∙ get_or-drop n xs 0 (pos 0) ∙ ap (λ (k : ℕ). get_or xs k (pos 0)) (add-zero n)

  pub entry-there : n + 1 ≤ length xs
  entry-there = omega (arith, sym (length-drop n xs) ∙ ap length e)

  pub others-left : ys ≡ drop (n + 1) xs
  others-left = sym (ap (drop 1) e) ∙ drop-drop 1 n xs

-- where none is left, all are taken
pub all-taken : (n : ℕ) (xs left : List ℤ) → left ≡ drop n xs → n ≤ length xs → length left ≡ 0 → n ≡ length xs
all-taken n xs left p h e = omega (arith, sym (length-drop n xs) ∙ sym (ap length p) ∙ e)

-- ---- one term more, as the machine reads the factors x and y
pub products-next : (cosines values : List ℤ) (n : ℕ) (s x y : ℤ) → Within (2 ^ 30) cosines → Within (2 ^ 30) values
    → s ≡ sum_z n (product_of cosines values) → x ≡ get_or cosines n (pos 0) → y ≡ get_or values n (pos 0)
    → s +ℤ to_z w32 (of_z w32 x) *ℤ to_z w32 (of_z w32 y) ≡ sum_z (n + 1) (product_of cosines values)
products-next cosines values n s x y wc wv e p q =
    next-sum n (λ k. get_or cosines k (pos 0)) (λ k. get_or values k (pos 0)) s x y
    (within-fits w32 x (subst (λ (z : ℤ). nat_abs z ≤ 2 ^ 30) (sym p) (wc n)) (lit< tt)).sfits
    (within-fits w32 y (subst (λ (z : ℤ). nat_abs z ≤ 2 ^ 30) (sym q) (wv n)) (lit< tt)).sfits e p q

-- ---- the products of a matrix's part, the k entries from `at` on, with the first n values
pub part-sum : (matrix values : List ℤ) (at k n : ℕ) → k ≡ n → at + n ≤ length matrix
    → sum_z (length (take k (drop at matrix))) (product_of (take k (drop at matrix)) (take n values))
    ≡ sum_z n (product_term matrix values at)
part-sum matrix values at k n e p =
    ap (λ (m : ℕ). sum_z m (product_of (take k (drop at matrix)) (take n values)))
    (length-take-le k (drop at matrix) (omega (arith, length-drop at matrix, p, e)) ∙ e)
    ∙ sum_z-ext n _ _
    (λ i l. ap₂ (λ x y. x *ℤ y) (get_or-take k (drop at matrix) i (pos 0) (omega arith) ∙ get_or-drop at matrix i (pos 0))
    (get_or-take n values i (pos 0) l))

pub first-within : (a n : ℕ) (xs : List ℤ) → Within a xs → Within a (take n xs)
first-within a n xs w i = go (ltb i n) refl
  where
    go : (t : Bool) → ltb i n ≡ t → nat_abs (get_or (take n xs) i (pos 0)) ≤ a
    go true t = subst (λ (z : ℤ). nat_abs z ≤ a) (sym (get_or-take n xs i (pos 0) (ltb-true i n t))) (w i)
    go false t =
        subst (λ (z : ℤ). nat_abs z ≤ a)
        (sym (get_or_past (take n xs) i (pos 0) (let h = ltb-false i n t in omega (arith, length-take n xs)))) zero-le

pub part-within : (a at n : ℕ) (xs : List ℤ) → Within a xs → Within a (take n (drop at xs))
part-within a at n xs w =
    first-within a n (drop at xs) (λ i. subst (λ (z : ℤ). nat_abs z ≤ a) (sym (get_or-drop at xs i (pos 0))) (w (at + i)))
