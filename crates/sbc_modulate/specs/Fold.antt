-- How the code of the synthesis takes the sums of a vector in parts, for the contracts of its inner functions alone: samples whose cosines
-- are equal or opposite are added or subtracted first. No call of a user's cites this.
-- From document 01, "Filterbanks": "The Rust's folding and ring must equal these sums."
use Rattle.std.specs.Prelude.{ℕ, ◌+◌, ◌*◌, ◌-◌, ◌/◌, ◌%◌, ◌^◌, List, eqb, leb, ltb, get_or, ℤ, pos, negsuc, ◌+ℤ◌, ◌*ℤ◌, if◌then◌else◌}
use Rattle.std.specs.Int.{w32}
use Rattle.laws.specs.Lists.{collect, build}
use Rattle.laws.specs.Integers.{floor_div, clamp_z}
use Rattle.laws.specs.Sums.{sum_z}
use Rattle.sbc_filterbank.specs.Matrices.{product_term}
use Rattle.sbc_filterbank.specs.Synthesis.{synthesis_cosine}

-- s[n] with its mirror s[S - 1 - n] added (odd = 0), or subtracted (1)
abbrev pub pair_sign : ℕ → ℤ
pair_sign odd = if eqb odd 0 then pos 1 else negsuc 0

unfoldable pub pair_of : ℕ → ℕ → (ℕ → ℤ) → ℕ → ℤ
pair_of S odd s n = s n +ℤ pair_sign odd *ℤ s (S - 1 - n)

-- the row of V that row m of the matrix gives, and whether it takes the sums (0) or the differences (1)
abbrev pub vector_row : ℕ → ℕ → ℕ
vector_row S m = if ltb m (S / 2) then m else m + S / 2 + 1

abbrev pub row_odd : ℕ → ℕ → ℕ
row_odd S m = (vector_row S m + S / 2) % 2

-- the matrix: for each row of V that is not a mirror of another, the cosines of its first S/2 subbands
unfoldable pub synthesis_rows : ℕ → List ℤ
synthesis_rows S = collect S (λ m. build (S / 2) (λ n. synthesis_cosine S (vector_row S m) n))

-- row m of the matrix times its pairs
unfoldable pub row_sum : ℕ → List ℤ → List ℤ → ℕ → ℤ
row_sum S sums differences m =
    sum_z (S / 2) (product_term (synthesis_rows S) (if eqb (row_odd S m) 0 then sums else differences) (m * (S / 2)))

-- row r of V: the row of the matrix that it comes from, and its sign; row S/2 is 0
abbrev pub row_source : ℕ → ℕ → ℕ
row_source S r =
    if ltb r (S / 2) then r else (if leb r S then S - r else (if leb r (3 * (S / 2)) then r - S / 2 - 1 else 5 * (S / 2) - r - 1))

abbrev pub row_sign : ℕ → ℕ → ℤ
row_sign S r = if eqb r (S / 2) then pos 0 else (if ltb r (S / 2) then pos 1 else (if leb r S then negsuc 0 else pos 1))

-- V[r] from the rows
unfoldable pub row_value : ℕ → List ℤ → ℕ → ℤ
row_value S rows r = clamp_z w32 (floor_div (row_sign S r *ℤ get_or rows (row_source S r) (pos 0)) (2 ^ 30))
