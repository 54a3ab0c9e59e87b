-- The folded analysis equals the plain sums: each output's coefficients of Y are the definition's cosines, by one test that antt computes
-- over the whole matrix for 4 and for 8 subbands. And the bounds that keep the folded sums in their types.
-- Assumes nothing.
use Prim.Native.Nat.{ℕ, ◌+◌, ◌*◌, ◌-◌, ◌/◌, ◌^◌, ◌≤◌, ◌<◌}
use mathlib.Core.Path.{◌≡◌, refl, sym, ap, ap₂, ◌∙◌, subst}
use mathlib.Core.Bool.{Bool, true, false, ◌&&◌}
use mathlib.Core.List.{List}
use native.Mathlib.Nat.{le_trans}
use native.Mathlib.Omega.{arith}
use lib.Dec.{T, eqb, ltb, leb, lit≤, lit<}
use lib.ListN.{length, get_or}
use lib.IntN.{ℤ, pos, negsuc, nat_abs, ◌+ℤ◌, ◌-ℤ◌, ◌*ℤ◌, zero-*ℤ, +ℤ_idr}
use mir.Facts.{and_yes}
use borrow.Author.Tests.{eq-eqb, ne_eqb, le-leb, lt-leb, lt-ltb, le-ltb, ltb-true, ltb-false, leb-false}
use Rattle.std.specs.Prelude.{if◌then◌else◌}
use Rattle.laws.specs.Lists.{collect, build}
use Rattle.laws.specs.Integers.{Within, floor_div}
use Rattle.laws.specs.Sums.{sum_z, up_to, delta}
use Rattle.laws.proofs.Cases.{by-test}
use Rattle.laws.proofs.Ring.{one-*ℤ, minus-one-*ℤ}
use Rattle.laws.proofs.Abs.{nat_abs-+, nat_abs--, nat_abs-*-le}
use Rattle.laws.proofs.Floor.{nat_abs-floor}
use Rattle.laws.proofs.Sums.{sum_z-ext}
use Rattle.laws.proofs.Arrays.{filled-ext, get_or-filled, within-up_to}
use Rattle.laws.proofs.Linear.{coefficient, folded, sum_of, difference-of}
use Rattle.laws.proofs.Table.{eq_z, eq_z→eq, all_below, at, table-within}
use Rattle.sbc_tables.specs.Tables.{cosines}
use Rattle.sbc_filterbank.specs.Subbands.{Bands, cosine_at, padded}
use Rattle.sbc_filterbank.specs.Analysis.{windowed, analysis_cosine, subband_term, subband_sample, analysis_outputs}
use Rattle.sbc_filterbank.specs.Matrices.{product_term}
use Rattle.sbc_analyze.specs.Fold.{fold_sign, fold_mirror, fold_column, even_columns, odd_columns}
use Rattle.sbc_analyze.specs.Fold.{analysis_columns, column_sum, output_sum, output_value}
use Rattle.sbc_filterbank.proofs.Bands.{for-bands, bands-le, padded-is}
use Rattle.sbc_filterbank.proofs.Terms.{products-within}

-- ---- a column, by its cases
module _ (S : ℕ) (Y : ℕ → ℤ) (c : ℕ) where
  pub fold-first : c ≡ 0 → fold_column S Y c ≡ Y (S / 2 + c)
  unfolding fold_column
  fold-first e = rw (eq-eqb c 0 e) (ap (λ z. Y (S / 2 + c) +ℤ z) (zero-*ℤ (Y (fold_mirror S c))) ∙ +ℤ_idr (Y (S / 2 + c)))

  pub fold-near : (c ≡ 0 → ⊥) → c ≤ S / 2 → fold_column S Y c ≡ Y (S / 2 + c) +ℤ Y (S / 2 - c)
  unfolding fold_column
  fold-near ne h = rw (ne_eqb c 0 ne, le-leb c (S / 2) h) (ap (λ z. Y (S / 2 + c) +ℤ z) (one-*ℤ (Y (S / 2 - c))))

  pub fold-far : (c ≡ 0 → ⊥) → S / 2 < c → fold_column S Y c ≡ Y (S / 2 + c) -ℤ Y (5 * (S / 2) - c)
  unfolding fold_column
  fold-far ne h = rw (ne_eqb c 0 ne, lt-leb c (S / 2) h) (ap (λ z. Y (S / 2 + c) +ℤ z) (minus-one-*ℤ (Y (5 * (S / 2) - c))))

-- ---- the coefficients of Y in the sums of columns
weight : ℕ → ℕ → ℕ → ℕ → ℤ
weight S odd i k =
    coefficient (S / 2) (λ n. get_or (analysis_columns S) (i * S + odd * (S / 2) + n) (pos 0)) (λ n. fold_sign S (2 * n + odd))
    (λ n. S / 2 + (2 * n + odd)) (λ n. fold_mirror S (2 * n + odd)) k

weight-sum-right : ℕ → ℕ → ℕ → Bool
weight-sum-right S i k = eq_z (weight S 0 i k +ℤ weight S 1 i k) (analysis_cosine S i k)

weight-difference-right : ℕ → ℕ → ℕ → Bool
weight-difference-right S i k = eq_z (weight S 0 i k -ℤ weight S 1 i k) (analysis_cosine S (S - 1 - i) k)

right : ℕ → ℕ → ℕ → Bool
right S i k = weight-sum-right S i k && weight-difference-right S i k

module _ {S : ℕ} (i k : ℕ) (b : Bands S) (h : i < S / 2) (p : k < 2 * S) where
  tested : T (right S i k)
  unfolding right weight-sum-right weight-difference-right weight coefficient sum_z delta
      analysis_columns collect build analysis_cosine cosine_at cosines
  tested =
      for-bands (λ s. i < s / 2 → k < 2 * s → T (right s i k)) b
      (λ l m. at 8 (right 4 i) (at 2 (λ j. all_below 8 (right 4 j)) tt i l) k m)
      (λ l m. at 16 (right 8 i) (at 4 (λ j. all_below 16 (right 8 j)) tt i l) k m) h p

  weight-sum : weight S 0 i k +ℤ weight S 1 i k ≡ analysis_cosine S i k
  unfolding right weight-sum-right
  weight-sum = eq_z→eq _ _ (and_yes (weight-sum-right S i k) (weight-difference-right S i k) tested).0

  weight-difference : weight S 0 i k -ℤ weight S 1 i k ≡ analysis_cosine S (S - 1 - i) k
  unfolding right weight-difference-right
  weight-difference = eq_z→eq _ _ (and_yes (weight-sum-right S i k) (weight-difference-right S i k) tested).1

-- ---- the sums of columns, as sums over Y
mirror-below : {S : ℕ} (c : ℕ) → Bands S → fold_mirror S c < 2 * S
mirror-below {S} c b =
    by-test (λ z. z < 2 * S) (leb c (S / 2)) (S / 2 - c) (5 * (S / 2) - c)
    (λ _. for-bands (λ s. s / 2 - c < 2 * s) b (omega arith) (omega arith))
    (λ e. for-bands (λ s. s / 2 < c → 5 * (s / 2) - c < 2 * s) b (λ h. omega arith) (λ h. omega arith) (leb-false c (S / 2) e))

mirrored-below : {S : ℕ} (i : ℕ) → Bands S → S / 2 ≤ i → i < S → S - 1 - i < S / 2
mirrored-below i b = for-bands (λ s. s / 2 ≤ i → i < s → s - 1 - i < s / 2) b (λ l m. omega arith) (λ l m. omega arith)

-- the even columns (odd = 0), or the odd ones (1), in an array
Holds : ℕ → (ℕ → ℤ) → ℕ → List ℤ → Type 0
Holds S Y odd F = (n : ℕ) → n < S / 2 → get_or F n (pos 0) ≡ fold_column S Y (2 * n + odd)

module _ {S : ℕ} (Y : ℕ → ℤ) (F : List ℤ) (odd at i : ℕ) (b : Bands S) where
  column-sum-is : Holds S Y odd F → odd < 2 → at ≡ odd * (S / 2) → i < S / 2
      → column_sum S F at i ≡ sum_z (2 * S) (λ k. weight S odd i k *ℤ Y k)
  unfolding Holds column_sum fold_column weight
  column-sum-is e o a h =
      ap (λ (m : ℕ). sum_z (S / 2) (product_term (analysis_columns S) F (i * S + m))) a
      ∙ sum_z-ext (S / 2) _ _ (λ n p. ap (λ z. get_or (analysis_columns S) (i * S + odd * (S / 2) + n) (pos 0) *ℤ z) (e n p))
      ∙ folded (S / 2) (2 * S) (λ n. get_or (analysis_columns S) (i * S + odd * (S / 2) + n) (pos 0)) (λ n. fold_sign S (2 * n + odd))
      (λ n. S / 2 + (2 * n + odd)) (λ n. fold_mirror S (2 * n + odd)) Y (λ n p. omega arith) (λ n p. mirror-below (2 * n + odd) b)

module _ {S : ℕ} (Y : ℕ → ℤ) (even odd : List ℤ) (b : Bands S) (e : Holds S Y 0 even) (o : Holds S Y 1 odd) where
  output-sum-is : (i : ℕ) → i < S
      → output_sum S (column_sum S even 0) (column_sum S odd (S / 2)) i ≡ sum_z (2 * S) (subband_term S Y i)
  unfolding output_sum
  output-sum-is i h =
      by-test (λ z. z ≡ sum_z (2 * S) (subband_term S Y i)) (ltb i (S / 2)) _ _
      (λ t. let p = ltb-true i (S / 2) t in
      ap₂ (λ x y. x +ℤ y) (column-sum-is Y even 0 0 i b e (lit< tt) (omega arith) p)
      (column-sum-is Y odd 1 (S / 2) i b o (lit< tt) (omega arith) p)
      ∙ sum_of (2 * S) (weight S 0 i) (weight S 1 i) (analysis_cosine S i) Y (λ k q. weight-sum i k b p q))
      (λ t. let p = mirrored-below i b (ltb-false i (S / 2) t) h in
      ap₂ (λ x y. x -ℤ y) (column-sum-is Y even 0 0 (S - 1 - i) b e (lit< tt) (omega arith) p)
      (column-sum-is Y odd 1 (S / 2) (S - 1 - i) b o (lit< tt) (omega arith) p)
      ∙ difference-of (2 * S) (weight S 0 (S - 1 - i)) (weight S 1 (S - 1 - i)) (analysis_cosine S i) Y
      (λ k q. weight-difference (S - 1 - i) k b p q ∙ ap (λ (n : ℕ). analysis_cosine S n k) (omega arith)))

-- ---- an output, by its cases
module _ (S : ℕ) (even odd : ℕ → ℤ) (i : ℕ) where
  pub output-first : i < S / 2 → output_value S even odd i ≡ floor_div (even i +ℤ odd i) (2 ^ 33)
  unfolding output_value output_sum
  output-first h = rw (lt-ltb i (S / 2) h)

  pub output-second : S / 2 ≤ i → output_value S even odd i ≡ floor_div (even (S - 1 - i) -ℤ odd (S - 1 - i)) (2 ^ 33)
  unfolding output_value output_sum
  output-second h = rw (le-ltb i (S / 2) h)

-- ---- the matrix: its entries, and where a part of it ends
matrix-within : {S : ℕ} → Bands S → Within (2 ^ 30) (analysis_columns S)
unfolding analysis_columns collect build analysis_cosine cosine_at cosines
matrix-within b =
    for-bands (λ s. Within (2 ^ 30) (analysis_columns s)) b (table-within (2 ^ 30) (analysis_columns 4) tt)
    (table-within (2 ^ 30) (analysis_columns 8) tt)

matrix-size : {S : ℕ} → Bands S → length (analysis_columns S) ≡ S / 2 * S
unfolding analysis_columns collect build
matrix-size b = for-bands (λ s. length (analysis_columns s) ≡ s / 2 * s) b refl refl

-- where the part of output i's even columns (at = 0) ends, or that of its odd ones (S/2), and the bound of the matrix as it is lent
pub column-ends : {S : ℕ} (i at place : ℕ) (M : List ℤ) → Bands S → i < S / 2 → at ≤ S / 2 → place ≡ i * S + at → M ≡ analysis_columns S
    → place + S / 2 ≤ length M
column-ends {S} i at place M b h a p e =
    let end : i * S + at + S / 2 ≤ S / 2 * S =
    for-bands (λ s. i < s / 2 → at ≤ s / 2 → i * s + at + s / 2 ≤ s / 2 * s) b (λ l m. omega arith) (λ l m. omega arith) h a in
    omega (arith, ap length e, matrix-size b)

pub lent-within : {S : ℕ} (M : List ℤ) → Bands S → M ≡ analysis_columns S → Within (2 ^ 30) M
lent-within M b e = subst (Within (2 ^ 30)) (sym e) (matrix-within b)

pub columns-fit : (F : List ℤ) → Within 800000000 F → Within (2 ^ 30) F
columns-fit F w k = le_trans (w k) (lit≤ tt)

pub column-sum-of : (S : ℕ) (M F : List ℤ) (at place i : ℕ) → place ≡ i * S + at → M ≡ analysis_columns S
    → sum_z (S / 2) (product_term M F place) ≡ column_sum S F at i
unfolding column_sum
column-sum-of S M F at place i p e = ap₂ (λ (l : List ℤ) (n : ℕ). sum_z (S / 2) (product_term l F n)) e p

-- ---- the bounds of the arrays
sign_small : (s t : Bool) → nat_abs (if s then pos 0 else (if t then pos 1 else negsuc 0)) ≤ 1
sign_small true t = lit≤ tt
sign_small false true = lit≤ tt
sign_small false false = lit≤ tt

column-within : (S : ℕ) (Y : ℕ → ℤ) (c : ℕ) → ((k : ℕ) → nat_abs (Y k) ≤ 400000000) → nat_abs (fold_column S Y c) ≤ 800000000
unfolding fold_column
column-within S Y c w =
    le_trans (nat_abs-+ (Y (S / 2 + c)) (fold_sign S c *ℤ Y (fold_mirror S c)))
    (omega (
      arith,
      w (S / 2 + c),
      nat_abs-*-le (fold_sign S c) (Y (fold_mirror S c)) (sign_small (eqb c 0) (leb c (S / 2)))
          (w (fold_mirror S c)),
    ))

pub columns-within : (S : ℕ) (c : ℕ → ℕ) (Y F : List ℤ) → Within 400000000 Y
    → F ≡ build 4 (up_to (S / 2) (λ n. fold_column S (λ k. get_or Y k (pos 0)) (c n))) → Within 800000000 F
columns-within S c Y F w e =
    subst (Within 800000000) (sym e)
    (within-up_to 4 (S / 2) 800000000 (λ n. fold_column S (λ k. get_or Y k (pos 0)) (c n))
    (λ n p. column-within S (λ k. get_or Y k (pos 0)) (c n) w))

pub sums-within : {S : ℕ} (F sums : List ℤ) (at : ℕ) → Bands S → Within 800000000 F
    → sums ≡ build 4 (up_to (S / 2) (column_sum S F at)) → Within (2 ^ 32 * 800000000) sums
unfolding column_sum
sums-within {S} F sums at b w e =
    subst (Within (2 ^ 32 * 800000000)) (sym e)
    (within-up_to 4 (S / 2) (2 ^ 32 * 800000000) (column_sum S F at)
    (λ i p. products-within (λ k. get_or (analysis_columns S) (i * S + at + k) (pos 0)) (λ k. get_or F k (pos 0)) (S / 2) 800000000
    (λ k. matrix-within b (i * S + at + k)) w (omega (arith, bands-le b))))

pub outputs-within : (S : ℕ) (even odd out : List ℤ) → Within (2 ^ 32 * 800000000) even → Within (2 ^ 32 * 800000000) odd
    → out ≡ build 8 (up_to S (output_value S (λ k. get_or even k (pos 0)) (λ k. get_or odd k (pos 0)))) → Within 800000000 out
unfolding output_value output_sum
outputs-within S even odd out w v e =
    subst (Within 800000000) (sym e)
    (within-up_to 8 S 800000000 _
    (λ i p. nat_abs-floor (output_sum S (λ k. get_or even k (pos 0)) (λ k. get_or odd k (pos 0)) i) (2 ^ 33) 800000000 (lit< tt)
    (by-test (λ z. nat_abs z ≤ 800000000 * 2 ^ 33) (ltb i (S / 2)) _ _
    (λ _. le_trans (nat_abs-+ (get_or even i (pos 0)) (get_or odd i (pos 0))) (omega (arith, w i, v i)))
    (λ _. le_trans (nat_abs-- (get_or even (S - 1 - i) (pos 0)) (get_or odd (S - 1 - i) (pos 0)))
    (omega (arith, w (S - 1 - i), v (S - 1 - i)))))))

-- ---- all outputs, from what the steps give
output-ext : {S : ℕ} (e o e' o' : ℕ → ℤ) (i : ℕ) → Bands S → i < S → ((k : ℕ) → k < S / 2 → e k ≡ e' k) → ((k : ℕ) → k < S / 2 → o k ≡ o' k)
    → output_sum S e o i ≡ output_sum S e' o' i
unfolding output_sum
output-ext {S} e o e' o' i b h p q = go (ltb i (S / 2)) refl
  where
    go : (t : Bool) → ltb i (S / 2) ≡ t
        → (if t then e i +ℤ o i else e (S - 1 - i) -ℤ o (S - 1 - i)) ≡ (if t then e' i +ℤ o' i else e' (S - 1 - i) -ℤ o' (S - 1 - i))
    go true t = let l = ltb-true i (S / 2) t in ap₂ (λ x y. x +ℤ y) (p i l) (q i l)
    go false t = let l = mirrored-below i b (ltb-false i (S / 2) t) h in ap₂ (λ x y. x -ℤ y) (p (S - 1 - i) l) (q (S - 1 - i) l)

pub outputs-is : {S : ℕ} (X Y F G even odd out : List ℤ) → Bands S → Y ≡ build 16 (up_to (2 * S) (windowed S X))
    → F ≡ even_columns S (λ k. get_or Y k (pos 0)) → G ≡ odd_columns S (λ k. get_or Y k (pos 0))
    → even ≡ build 4 (up_to (S / 2) (column_sum S F 0)) → odd ≡ build 4 (up_to (S / 2) (column_sum S G (S / 2)))
    → out ≡ build 8 (up_to S (output_value S (λ k. get_or even k (pos 0)) (λ k. get_or odd k (pos 0))))
    → out ≡ padded (analysis_outputs S X)
unfolding Holds output_value subband_sample analysis_outputs
outputs-is {S} X Y F G even odd out b y f g e o r =
    r
    ∙ filled-ext 8 S _ (subband_sample S (windowed S X))
    (λ i h. ap (λ z. floor_div z (2 ^ 33))
    (output-ext (λ k. get_or even k (pos 0)) (λ k. get_or odd k (pos 0)) _ _ i b h (entry _ even e) (entry _ odd o)
    ∙ output-sum-is (λ k. get_or Y k (pos 0)) F G b
    (λ n p. entry _ F f n p ∙ ap (fold_column S (λ k. get_or Y k (pos 0))) (omega arith)) (entry _ G g) i h
    ∙ sum_z-ext (2 * S) _ _ (λ k p. ap (λ z. analysis_cosine S i k *ℤ z)
    (get_or-filled 16 (2 * S) (windowed S X) Y k y p (for-bands (λ s. 2 * s ≤ 16) b (lit≤ tt) (lit≤ tt))))))
    ∙ padded-is S (subband_sample S (windowed S X)) (bands-le b)
  where
    entry : (f : ℕ → ℤ) (xs : List ℤ) → xs ≡ build 4 (up_to (S / 2) f) → (k : ℕ) → k < S / 2 → get_or xs k (pos 0) ≡ f k
    entry f xs q k p = get_or-filled 4 (S / 2) f xs k q p (omega (arith, bands-le b))
