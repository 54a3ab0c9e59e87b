-- How the code of the analysis takes the sums in parts, for the contracts of its inner functions alone: entries whose cosines are equal or
-- opposite are added or subtracted first, and the history moves in two steps. No call of a user's cites this.
-- From document 01, "Filterbanks": "The Rust's folding and ring must equal these sums."
use Rattle.std.specs.Prelude.{ℕ, ◌+◌, ◌*◌, ◌-◌, ◌/◌, ◌^◌, List, ◌++◌, eqb, leb, ltb, length, get_or, ℤ, pos, negsuc, ◌+ℤ◌, ◌-ℤ◌, ◌*ℤ◌}
use Rattle.std.specs.Prelude.{if◌then◌else◌}
use Rattle.laws.specs.Lists.{collect, build}
use Rattle.laws.specs.Integers.{floor_div}
use Rattle.laws.specs.Sums.{sum_z, up_to}
use Rattle.sbc_filterbank.specs.Analysis.{analysis_cosine}
use Rattle.sbc_filterbank.specs.Matrices.{product_term}

-- ---- the history: f below n, and g from n on
abbrev pub spliced_at : ℕ → (ℕ → ℤ) → (ℕ → ℤ) → ℕ → ℤ
spliced_at n f g k = if ltb k n then f k else g k

-- its first `count` places move up by S
abbrev pub moved_up : ℕ → ℕ → List ℤ → ℕ → ℤ
moved_up S count X k = if ltb k (count + S) then get_or X (k - S) (pos 0) else get_or X k (pos 0)

abbrev pub moved : ℕ → ℕ → List ℤ → List ℤ
moved S count X = build (length X) (spliced_at S (λ k. get_or X k (pos 0)) (moved_up S count X))

-- and the new samples come to the front, newest first
abbrev pub entering : ℕ → List ℤ → ℕ → ℤ
entering S input k = get_or input (S - 1 - k) (pos 0)

abbrev pub entered : ℕ → List ℤ → List ℤ → List ℤ
entered S input X = build (length X) (spliced_at S (entering S input) (λ k. get_or X k (pos 0)))

-- ---- analysis: column c of Y is Y[S/2 + c], with Y[S/2 - c] added up to column S/2, and Y[5 S/2 - c] subtracted past it
abbrev pub fold_sign : ℕ → ℕ → ℤ
fold_sign S c = if eqb c 0 then pos 0 else (if leb c (S / 2) then pos 1 else negsuc 0)

abbrev pub fold_mirror : ℕ → ℕ → ℕ
fold_mirror S c = if leb c (S / 2) then S / 2 - c else 5 * (S / 2) - c

unfoldable pub fold_column : ℕ → (ℕ → ℤ) → ℕ → ℤ
fold_column S Y c = Y (S / 2 + c) +ℤ fold_sign S c *ℤ Y (fold_mirror S c)

-- the S/2 even columns of Y, and the S/2 odd ones, in arrays of four
abbrev pub even_columns : ℕ → (ℕ → ℤ) → List ℤ
even_columns S Y = build 4 (up_to (S / 2) (λ n. fold_column S Y (2 * n)))

abbrev pub odd_columns : ℕ → (ℕ → ℤ) → List ℤ
odd_columns S Y = build 4 (up_to (S / 2) (λ n. fold_column S Y (2 * n + 1)))

-- the matrix: for each output in the first half, the cosines of its even columns, and then those of its odd ones
unfoldable pub analysis_columns : ℕ → List ℤ
analysis_columns S =
    collect (S / 2)
    (λ i. build (S / 2) (λ n. analysis_cosine S i (S / 2 + 2 * n)) ++ build (S / 2) (λ n. analysis_cosine S i (S / 2 + 2 * n + 1)))

-- what output i takes of the even columns, whose cosines begin at its row (at = 0), or of the odd ones (at = S/2)
unfoldable pub column_sum : ℕ → List ℤ → ℕ → ℕ → ℤ
column_sum S columns at i = sum_z (S / 2) (product_term (analysis_columns S) columns (i * S + at))

-- output i from the sums of the even and of the odd columns: their sum, and in the second half the mirrored output's difference
unfoldable pub output_sum : ℕ → (ℕ → ℤ) → (ℕ → ℤ) → ℕ → ℤ
output_sum S even odd i = if ltb i (S / 2) then even i +ℤ odd i else even (S - 1 - i) -ℤ odd (S - 1 - i)

unfoldable pub output_value : ℕ → (ℕ → ℤ) → (ℕ → ℤ) → ℕ → ℤ
output_value S even odd i = floor_div (output_sum S even odd i) (2 ^ 33)
