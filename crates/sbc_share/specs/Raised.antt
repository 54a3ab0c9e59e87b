-- The code's levels and needs stand 32 higher, so that they are natural numbers. From document 01, "Need and share".
use Rattle.std.specs.Prelude.{List, [], ◌∷◌, map, ℕ, ◌-◌, ◌≤◌, ◌<◌, min, max, length, get_or, ℤ, pos, ◌-ℤ◌}

-- the need or level that is meant
unfoldable pub lowered : ℕ → ℤ
lowered n = pos n -ℤ pos 32

-- the greatest, and the least, of n and the list
unfoldable pub greatest_raised : ℕ → List ℕ → ℕ
greatest_raised n [] = n
greatest_raised n (m ∷ ms) = max m (greatest_raised n ms)

unfoldable pub least_raised : ℕ → List ℕ → ℕ
least_raised n [] = n
least_raised n (m ∷ ms) = min m (least_raised n ms)

-- how far each need stands above the level
unfoldable pub excesses : ℕ → List ℕ → List ℕ
excesses level ns = map (λ n. n - level) ns

-- what sharing asks of a group: 1 to 16 needs, none so low that sixteen less is no natural number, and a bitpool of one byte
abbrev pub Servable : List ℕ → ℕ → Type 0
Servable needs bitpool = (0 < length needs) × (length needs ≤ 16) × (bitpool ≤ 255) × ((i : ℕ) → i < length needs → 16 ≤ get_or needs i 0)
