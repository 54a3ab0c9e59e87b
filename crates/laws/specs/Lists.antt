-- Lists, sums and tests by index.
use Rattle.std.specs.Prelude.{ℕ, zero, suc, ◌+◌, max, Bool, true, ◌&&◌, List, [], ◌∷◌, ◌++◌, eqb, ltb, length, if◌then◌else◌}

module _ {ℓ} {A : Type ℓ} where
  -- f 0, f 1, .., f (n - 1), end to end
  unfoldable pub collect : ℕ → (ℕ → List A) → List A
  collect zero f = []
  collect (suc n) f = collect n f ++ f n

  -- the list of f 0, f 1, .., f (n - 1)
  unfoldable pub build : ℕ → (ℕ → A) → List A
  build n f = collect n (λ i. f i ∷ [])

-- f 0 + f 1 + .. + f (n - 1)
unfoldable pub total : ℕ → (ℕ → ℕ) → ℕ
total zero f = 0
total (suc n) f = total n f + f n

-- the greatest of 0, f 0, f 1, .., f (n - 1)
unfoldable pub greatest : ℕ → (ℕ → ℕ) → ℕ
greatest zero f = 0
greatest (suc n) f = max (greatest n f) (f n)

-- every test of a list passes
unfoldable pub all_of : List Bool → Bool
all_of [] = true
all_of (t ∷ ts) = t && all_of ts

-- the place of the first x in a list, or the list's length where it has none
unfoldable pub index_of : ℕ → List ℕ → ℕ
index_of x [] = 0
index_of x (y ∷ ys) = if eqb x y then 0 else suc (index_of x ys)

-- x stands in the list
unfoldable pub listed : ℕ → List ℕ → Bool
listed x ys = ltb (index_of x ys) (length ys)

-- the index of a value in its list; a value that is not listed counts as index 0
unfoldable pub place_in : ℕ → List ℕ → ℕ
place_in x xs = if listed x xs then index_of x xs else 0
