-- How a group's bitpool is shared among its needs. From document 01, "Need and share", from "Level search" to "fewer than 16".
-- A group is the list of its needs in the order in which they are served.
use Rattle.std.specs.Prelude.{◌&&◌, List, [], ◌∷◌, map, ℕ, zero, suc, ◌+◌, ◌-◌, min, leb, ltb, eqb, ℤ, pos, negsuc, ◌-ℤ◌, if◌then◌else◌}
use Rattle.std.proofs.Math.IntN.{pred_ℤ}
use Rattle.std.specs.Int.Signed.{le_z}

-- the entries of a list, added
unfoldable pub sum : List ℕ → ℕ
sum [] = 0
sum (x ∷ xs) = x + sum xs

-- ---- how far needs stand above a level v: need - v, and 0 where that is negative

-- a negative number counts as 0
abbrev pub at_least0 : ℤ → ℕ
at_least0 (pos k) = k
at_least0 (negsuc k) = 0

-- how far one need stands above v
unfoldable pub above : ℤ → ℤ → ℕ
above v n = at_least0 (n -ℤ v)

-- how far each need stands above v
unfoldable pub heights : ℤ → List ℤ → List ℕ
heights v needs = map (above v) needs

-- ---- level search

-- what a need adds at the level that it stands k above: 2 bits for a need of v + 1, 1 for a need from v + 2 to v + 15
unfoldable pub level_part : ℕ → ℕ
level_part k = if eqb k 1 then 2 else if leb 2 k && leb k 15 then 1 else 0

-- what all needs add at a level
unfoldable pub level_bits : List ℕ → ℕ
level_bits ks = sum (map level_part ks)

-- From level v, with count bits above it, down by one to where the running sum reaches or passes bitpool: one lower still
-- if it is exact; that level, its part dropped, if it passes. `distance`, v's distance above the least need minus
-- sixteen, falls; no accepted set comes to its end.
unfoldable pub descend : ℕ → List ℤ → ℕ → ℤ → ℕ → ℤ
descend zero needs bitpool v count = v
descend (suc distance) needs bitpool v count =
    let reached = count + level_bits (heights v needs) in
    if ltb reached bitpool then descend distance needs bitpool (pred_ℤ v) reached else
    if eqb reached bitpool then pred_ℤ v else
    v

-- the greatest, and the least, of n and the needs
unfoldable pub greatest_need : ℤ → List ℤ → ℤ
greatest_need n [] = n
greatest_need n (m ∷ ms) = let g = greatest_need n ms in if le_z g m then m else g

unfoldable pub least_need : ℤ → List ℤ → ℤ
least_need n [] = n
least_need n (m ∷ ms) = let l = least_need n ms in if le_z l m then l else m

-- the level that the search ends at: it starts at the greatest need
unfoldable pub level_of : List ℤ → ℕ → ℤ
level_of [] bitpool = pos 0
level_of (n ∷ ns) bitpool =
    let top = greatest_need n ns in
    descend (above (least_need n ns -ℤ pos 16) top) (n ∷ ns) bitpool top 0

-- ---- base, round and last bit, of needs that stand k above the level

-- a need below v + 2 gives 0, else the lesser of need - v and 16
unfoldable pub base_bits : ℕ → ℕ
base_bits k = if ltb k 2 then 0 else min k 16

-- what a need gains in the round with so many bits left: 1 where its bits are 2 to 15; 2 for a need of v + 1 if two are left
unfoldable pub round_gain : ℕ → ℕ → ℕ
round_gain k left =
    if leb 2 (base_bits k) && leb (base_bits k) 15 then min 1 left else
    if eqb k 1 && leb 2 left then 2 else
    0

-- the base with one round of gains, in order
unfoldable pub round_bits : List ℕ → ℕ → List ℕ
round_bits [] left = []
round_bits (k ∷ ks) left = (base_bits k + round_gain k left) ∷ round_bits ks (left - round_gain k left)

-- where a bit is left, the first with fewer than 16 gets it
unfoldable pub last_bit : ℕ → List ℕ → List ℕ
last_bit zero bits = bits
last_bit (suc left) [] = []
last_bit (suc left) (b ∷ bs) = if ltb b 16 then (b + 1) ∷ bs else b ∷ last_bit (suc left) bs

-- base, round and last bit: what the round leaves goes to the first with fewer than 16
unfoldable pub share_at : List ℕ → ℕ → List ℕ
share_at ks bitpool =
    let bits = round_bits ks (bitpool - sum (map base_bits ks)) in
    last_bit (bitpool - sum bits) bits

-- each need's bits, in the needs' order
unfoldable pub share : List ℤ → ℕ → List ℕ
share needs bitpool = share_at (heights (level_of needs bitpool) needs) bitpool
