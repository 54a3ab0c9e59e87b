-- The folded synthesis equals the plain sums: each row's coefficients of the subband samples are the definition's cosines, by one test that
-- antt computes over the whole matrix for 4 and for 8 subbands. And the bounds that keep the folded sums in their types.
-- Assumes nothing.
use Prim.Native.Nat.{ℕ, ◌+◌, ◌*◌, ◌-◌, ◌/◌, ◌^◌, ◌≤◌, ◌<◌}
use mathlib.Core.Path.{◌≡◌, refl, sym, ap, ◌∙◌, subst}
use mathlib.Core.Bool.{Bool, true, false}
use mathlib.Core.List.{List}
use native.Mathlib.Nat.{le_trans}
use native.Mathlib.Omega.{arith}
use lib.Dec.{T, eqb, ltb, leb, lit≤}
use lib.ListN.{length, get_or}
use lib.IntN.{ℤ, pos, negsuc, nat_abs, ◌+ℤ◌, ◌-ℤ◌, ◌*ℤ◌}
use mir.Syntax.{w32}
use borrow.Author.Tests.{ltb-true, ltb-false, leb-true, leb-false, eqb-true, eqb-false}
use Rattle.std.specs.Prelude.{if◌then◌else◌}
use Rattle.laws.specs.Lists.{collect, build}
use Rattle.laws.specs.Integers.{Within, floor_div, clamp_z}
use Rattle.laws.specs.Sums.{sum_z, up_to, delta}
use Rattle.laws.proofs.Cases.{by-test}
use Rattle.laws.proofs.Ring.{*ℤ-assoc, one-*ℤ, minus-one-*ℤ}
use Rattle.laws.proofs.Abs.{nat_abs-+, nat_abs-*-le}
use Rattle.laws.proofs.Sums.{sum_z-ext, sum_z-*}
use Rattle.laws.proofs.Arrays.{get_or-filled, within-up_to}
use Rattle.laws.proofs.Linear.{coefficient, folded}
use Rattle.laws.proofs.Table.{eq_z, eq_z→eq, all_below, at, table-within}
use Rattle.sbc_tables.specs.Tables.{cosines}
use Rattle.sbc_filterbank.specs.Subbands.{Bands, cosine_at}
use Rattle.sbc_filterbank.specs.Synthesis.{synthesis_cosine, modulate_term, modulated_at}
use Rattle.sbc_filterbank.specs.Matrices.{product_term}
use Rattle.sbc_modulate.specs.Fold.{pair_sign, pair_of, row_odd, synthesis_rows, row_sum, row_source, row_sign, row_value}
use Rattle.sbc_filterbank.proofs.Bands.{for-bands, bands-le}
use Rattle.sbc_filterbank.proofs.Terms.{products-within}

-- ---- the coefficients of the subband samples in the rows
weight : ℕ → ℕ → ℕ → ℤ
weight S m i =
    coefficient (S / 2) (λ n. get_or (synthesis_rows S) (m * (S / 2) + n) (pos 0)) (λ n. pair_sign (row_odd S m)) (λ n. n) (λ n. S - 1 - n)
    i

right : ℕ → ℕ → ℕ → Bool
right S r i = eq_z (row_sign S r *ℤ weight S (row_source S r) i) (synthesis_cosine S r i)

module _ {S : ℕ} (r i : ℕ) (b : Bands S) (h : r < 2 * S) (p : i < S) where
  tested : T (right S r i)
  unfolding right weight coefficient sum_z delta synthesis_rows collect build synthesis_cosine cosine_at cosines
  tested =
      for-bands (λ s. r < 2 * s → i < s → T (right s r i)) b
      (λ l m. at 4 (right 4 r) (at 8 (λ j. all_below 4 (right 4 j)) tt r l) i m)
      (λ l m. at 8 (right 8 r) (at 16 (λ j. all_below 8 (right 8 j)) tt r l) i m) h p

  weight_is : row_sign S r *ℤ weight S (row_source S r) i ≡ synthesis_cosine S r i
  unfolding right
  weight_is = eq_z→eq _ _ tested

-- ---- a row of the matrix, as a sum over the samples
module _ (S : ℕ) (s : ℕ → ℤ) (sums differences : List ℤ) (p : (k : ℕ) → k < S / 2 → get_or sums k (pos 0) ≡ pair_of S 0 s k)
    (q : (k : ℕ) → k < S / 2 → get_or differences k (pos 0) ≡ pair_of S 1 s k) where
  chosen : (o n : ℕ) → n < S / 2 → o < 2 → get_or (if eqb o 0 then sums else differences) n (pos 0) ≡ pair_of S o s n
  chosen o n h o2 =
      by-test (λ (xs : List ℤ). get_or xs n (pos 0) ≡ pair_of S o s n) (eqb o 0) sums differences
      (λ e. p n h ∙ ap (λ (k : ℕ). pair_of S k s n) (sym (eqb-true o 0 e)))
      (λ e. let ne = eqb-false o 0 e in q n h ∙ ap (λ (k : ℕ). pair_of S k s n) (omega arith))

  row-sum-is : (m : ℕ) → row_sum S sums differences m ≡ sum_z S (λ i. weight S m i *ℤ s i)
  unfolding row_sum weight pair_of
  row-sum-is m =
      sum_z-ext (S / 2) _ _
      (λ n h. ap (λ z. get_or (synthesis_rows S) (m * (S / 2) + n) (pos 0) *ℤ z) (chosen (row_odd S m) n h (omega arith)))
      ∙ folded (S / 2) S (λ n. get_or (synthesis_rows S) (m * (S / 2) + n) (pos 0)) (λ n. pair_sign (row_odd S m)) (λ n. n)
      (λ n. S - 1 - n) s
      (λ n h. omega arith) (λ n h. omega arith)

-- the sum with the pairs that its row takes
module _ (S : ℕ) (M sums differences : List ℤ) (m : ℕ) (e : M ≡ synthesis_rows S) where
  pub row-even : eqb (row_odd S m) 0 ≡ true → sum_z (S / 2) (product_term M sums (m * (S / 2))) ≡ row_sum S sums differences m
  unfolding row_sum
  row-even q = rw q (ap (λ (l : List ℤ). sum_z (S / 2) (product_term l sums (m * (S / 2)))) e)

  pub row-uneven : eqb (row_odd S m) 0 ≡ false → sum_z (S / 2) (product_term M differences (m * (S / 2))) ≡ row_sum S sums differences m
  unfolding row_sum
  row-uneven q = rw q (ap (λ (l : List ℤ). sum_z (S / 2) (product_term l differences (m * (S / 2)))) e)

-- ---- every row of V comes from a row of the matrix, with a sign of 1, 0 or -1
pub source-below : {S : ℕ} (r : ℕ) → Bands S → r < 2 * S → row_source S r < S
source-below {S} r b h =
    by-test (λ z. z < S) (ltb r (S / 2)) r _ (λ e. omega (arith, ltb-true r (S / 2) e))
    (λ e. by-test (λ z. z < S) (leb r S) (S - r) _
    (λ _. for-bands (λ s. s / 2 ≤ r → s - r < s) b (λ x. omega arith) (λ x. omega arith) (ltb-false r (S / 2) e))
    (λ _. by-test (λ z. z < S) (leb r (3 * (S / 2))) (r - S / 2 - 1) (5 * (S / 2) - r - 1)
    (λ g. for-bands (λ s. r ≤ 3 * (s / 2) → r - s / 2 - 1 < s) b (λ x. omega arith) (λ x. omega arith) (leb-true r (3 * (S / 2)) g))
    (λ g. for-bands (λ s. 3 * (s / 2) < r → 5 * (s / 2) - r - 1 < s) b (λ x. omega arith) (λ x. omega arith)
    (leb-false r (3 * (S / 2)) g))))

pub row-sign-small : (S r : ℕ) → nat_abs (row_sign S r) ≤ 1
row-sign-small S r = go (eqb r (S / 2)) (ltb r (S / 2)) (leb r S)
  where
    go : (s t u : Bool) → nat_abs (if s then pos 0 else (if t then pos 1 else (if u then negsuc 0 else pos 1))) ≤ 1
    go true t u = lit≤ tt
    go false true u = lit≤ tt
    go false false true = lit≤ tt
    go false false false = lit≤ tt

-- ---- row r of V, from what the steps give
module _ {S : ℕ} (input sums differences rows : List ℤ) (b : Bands S)
    (p : sums ≡ build 4 (up_to (S / 2) (pair_of S 0 (λ k. get_or input k (pos 0)))))
    (q : differences ≡ build 4 (up_to (S / 2) (pair_of S 1 (λ k. get_or input k (pos 0)))))
    (e : rows ≡ build 8 (up_to S (row_sum S sums differences))) (r : ℕ) (h : r < 2 * S) where
  entry : (o : ℕ) (xs : List ℤ) → xs ≡ build 4 (up_to (S / 2) (pair_of S o (λ k. get_or input k (pos 0)))) → (k : ℕ) → k < S / 2
      → get_or xs k (pos 0) ≡ pair_of S o (λ n. get_or input n (pos 0)) k
  entry o xs x k l = get_or-filled 4 (S / 2) (pair_of S o (λ n. get_or input n (pos 0))) xs k x l (omega (arith, bands-le b))

  sum-of-source : ℤ
  sum-of-source = sum_z S (λ i. weight S (row_source S r) i *ℤ get_or input i (pos 0))

  signs : row_sign S r *ℤ sum-of-source ≡ sum_z S (modulate_term S input r)
  unfolding sum-of-source
  signs =
      sym (sum_z-* S (row_sign S r) (λ i. weight S (row_source S r) i *ℤ get_or input i (pos 0)))
      ∙ sum_z-ext S _ _
      (λ i l. sym (*ℤ-assoc (row_sign S r) (weight S (row_source S r) i) (get_or input i (pos 0)))
      ∙ ap (λ z. z *ℤ get_or input i (pos 0)) (weight_is r i b h l))

  signed-row-is : row_sign S r *ℤ get_or rows (row_source S r) (pos 0) ≡ sum_z S (modulate_term S input r)
  unfolding sum-of-source
  signed-row-is =
      ap (λ z. row_sign S r *ℤ z)
      (get_or-filled 8 S (row_sum S sums differences) rows (row_source S r) e (source-below r b h) (bands-le b)
      ∙ row-sum-is S (λ k. get_or input k (pos 0)) sums differences (entry 0 sums p) (entry 1 differences q) (row_source S r))
      ∙ signs

  pub row-value-is : row_value S rows r ≡ modulated_at S input r
  unfolding row_value modulated_at
  row-value-is = ap (λ z. clamp_z w32 (floor_div z (2 ^ 30))) signed-row-is

-- ---- a pair, the sum or the difference, and its bound
module _ (S : ℕ) (s : ℕ → ℤ) (n : ℕ) where
  pub pair-sum : pair_of S 0 s n ≡ s n +ℤ s (S - 1 - n)
  unfolding pair_of
  pair-sum = ap (λ z. s n +ℤ z) (one-*ℤ (s (S - 1 - n)))

  pub pair-difference : pair_of S 1 s n ≡ s n -ℤ s (S - 1 - n)
  unfolding pair_of
  pair-difference = ap (λ z. s n +ℤ z) (minus-one-*ℤ (s (S - 1 - n)))

module _ (S : ℕ) (s : ℕ → ℤ) (odd n : ℕ) where
  pair-bound : ((k : ℕ) → nat_abs (s k) ≤ 2 ^ 29) → nat_abs (pair_of S odd s n) ≤ 2 ^ 30
  unfolding pair_of
  pair-bound w =
      le_trans (nat_abs-+ (s n) (pair_sign odd *ℤ s (S - 1 - n)))
      (omega (arith, w n, nat_abs-*-le (pair_sign odd) (s (S - 1 - n)) sign (w (S - 1 - n))))
    where
      sign : nat_abs (pair_sign odd) ≤ 1
      sign = by-test (λ z. nat_abs z ≤ 1) (eqb odd 0) (pos 1) (negsuc 0) (λ _. lit≤ tt) (λ _. lit≤ tt)

pub pairs-within : (S odd : ℕ) (input pairs : List ℤ) → Within (2 ^ 29) input
    → pairs ≡ build 4 (up_to (S / 2) (pair_of S odd (λ k. get_or input k (pos 0)))) → Within (2 ^ 30) pairs
pairs-within S odd input pairs w e =
    subst (Within (2 ^ 30)) (sym e)
    (within-up_to 4 (S / 2) (2 ^ 30) (pair_of S odd (λ k. get_or input k (pos 0)))
    (λ n p. pair-bound S (λ k. get_or input k (pos 0)) odd n w))

-- ---- the matrix, and the bounds of the rows
matrix-within : {S : ℕ} → Bands S → Within (2 ^ 30) (synthesis_rows S)
unfolding synthesis_rows collect build synthesis_cosine cosine_at cosines
matrix-within b =
    for-bands (λ s. Within (2 ^ 30) (synthesis_rows s)) b (table-within (2 ^ 30) (synthesis_rows 4) tt)
    (table-within (2 ^ 30) (synthesis_rows 8) tt)

matrix-size : {S : ℕ} → Bands S → length (synthesis_rows S) ≡ S * (S / 2)
unfolding synthesis_rows collect build
matrix-size b = for-bands (λ s. length (synthesis_rows s) ≡ s * (s / 2)) b refl refl

-- where row m of the matrix ends, and the bound of the matrix as it is lent
pub row-ends : {S : ℕ} (m : ℕ) (M : List ℤ) → Bands S → m < S → M ≡ synthesis_rows S → m * (S / 2) + S / 2 ≤ length M
row-ends {S} m M b h e =
    let end : m * (S / 2) + S / 2 ≤ S * (S / 2) =
    for-bands (λ s. m < s → m * (s / 2) + s / 2 ≤ s * (s / 2)) b (λ l. omega arith) (λ l. omega arith) h in
    subst (λ (n : ℕ). m * (S / 2) + S / 2 ≤ n) (sym (ap length e ∙ matrix-size b)) end

pub lent-within : {S : ℕ} (M : List ℤ) → Bands S → M ≡ synthesis_rows S → Within (2 ^ 30) M
lent-within M b e = subst (Within (2 ^ 30)) (sym e) (matrix-within b)

pub rows-within : {S : ℕ} (sums differences rows : List ℤ) → Bands S → Within (2 ^ 30) sums → Within (2 ^ 30) differences
    → rows ≡ build 8 (up_to S (row_sum S sums differences)) → Within (2 ^ 62) rows
unfolding row_sum
rows-within {S} sums differences rows b p q e =
    subst (Within (2 ^ 62)) (sym e)
    (within-up_to 8 S (2 ^ 62) (row_sum S sums differences)
    (λ r h. products-within (λ k. get_or (synthesis_rows S) (r * (S / 2) + k) (pos 0))
    (λ k. get_or (if eqb (row_odd S r) 0 then sums else differences) k (pos 0)) (S / 2) (2 ^ 30)
    (λ k. matrix-within b (r * (S / 2) + k))
    (by-test (Within (2 ^ 30)) (eqb (row_odd S r) 0) sums differences (λ _. p) (λ _. q)) (omega (arith, bands-le b))))
