-- The code's small arrays, as lists.
use Rattle.std.specs.Prelude.{List, [], ◌∷◌, ℕ, zero, suc}

-- f 0, f 1, .., f (n - 1) for a numeral n: it computes to a list that is written out, as the code's small arrays are
abbrev pub entries : ℕ → (ℕ → ℕ) → List ℕ
entries zero f = []
entries (suc n) f = f 0 ∷ entries n (λ i. f (suc i))
