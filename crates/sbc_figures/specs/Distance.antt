-- How far two lists of samples, which are equally long, are apart.
-- From document 01, "Reviewer's checklist": published vectors.
use Rattle.std.specs.Prelude.{ℕ, List, eqb, length, get_or, ℤ, pos, nat_abs, ◌-ℤ◌, if◌then◌else◌}
use Rattle.laws.specs.Lists.{total, greatest}

-- the distance of two samples
unfoldable pub apart : ℤ → ℤ → ℕ
apart a b = nat_abs (a -ℤ b)

-- 1 where two samples differ, and 0 where they are the same
unfoldable pub unequal : ℤ → ℤ → ℕ
unequal a b = if eqb (apart a b) 0 then 0 else 1

-- how many samples differ
unfoldable pub differing : List ℤ → List ℤ → ℕ
differing xs ys = total (length xs) (λ i. unequal (get_or xs i (pos 0)) (get_or ys i (pos 0)))

-- the greatest distance
unfoldable pub farthest : List ℤ → List ℤ → ℕ
farthest xs ys = greatest (length xs) (λ i. apart (get_or xs i (pos 0)) (get_or ys i (pos 0)))
