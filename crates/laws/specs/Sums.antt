-- Sums of integers by index, and arrays that a loop fills.
use Rattle.std.specs.Prelude.{ℕ, zero, suc, ◌+◌, List, eqb, ltb, set, ℤ, pos, ◌+ℤ◌, if◌then◌else◌}

-- f 0 + f 1 + .. + f (n - 1)
unfoldable pub sum_z : ℕ → (ℕ → ℤ) → ℤ
sum_z zero f = pos 0
sum_z (suc n) f = sum_z n f +ℤ f n

-- f below n, and 0 from n on
abbrev pub up_to : ℕ → (ℕ → ℤ) → ℕ → ℤ
up_to n f k = if ltb k n then f k else pos 0

-- the list with the n entries from `at` on replaced by f 0, f 1, .., f (n - 1)
unfoldable pub overwrite : {A : Type 0} → ℕ → ℕ → (ℕ → A) → List A → List A
overwrite at zero f xs = xs
overwrite at (suc n) f xs = set (overwrite at n f xs) (at + n) (f n)

-- 1 where the two indexes are the same, and 0 elsewhere
unfoldable pub delta : ℕ → ℕ → ℤ
delta a k = if eqb a k then pos 1 else pos 0
