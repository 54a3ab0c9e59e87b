-- How the code of both directions holds the cosines of the folded sums, for the contracts of its inner functions alone: in one list, of
-- which a sum takes a part. No call of a user's cites this. From document 01, "Filterbanks".
use Rattle.std.specs.Prelude.{ℕ, ◌+◌, List, get_or, ℤ, pos, ◌*ℤ◌}

-- the n-th cosine times the n-th value
abbrev pub product_of : List ℤ → List ℤ → ℕ → ℤ
product_of cosines values n = get_or cosines n (pos 0) *ℤ get_or values n (pos 0)

-- the n-th cosine of a matrix from `at` on times the n-th value
abbrev pub product_term : List ℤ → List ℤ → ℕ → ℕ → ℤ
product_term matrix values at n = get_or matrix (at + n) (pos 0) *ℤ get_or values n (pos 0)
