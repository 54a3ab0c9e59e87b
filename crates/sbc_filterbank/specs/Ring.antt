-- The ten vectors of the synthesis filterbank as a ring: 160 numbers, of which each of ten slots takes 2 S, and the slot of the newest
-- vector. The older vectors stand in the slots after it, round the ring. `newest` counts mod 10, so that every number is a slot.
-- From document 01, "Filterbanks": "The Rust's folding and ring must equal these sums."
use Rattle.std.specs.Prelude.{ℕ, ◌+◌, ◌*◌, ◌%◌, List, get_or, ℤ, pos}
use Rattle.laws.specs.Lists.{build}
use Rattle.laws.specs.Sums.{overwrite}

-- the vector in the slot that is b after the newest
unfoldable pub slot_vector : ℕ → List ℤ → ℕ → ℕ → List ℤ
slot_vector S values newest b = build (2 * S) (λ r. get_or values (2 * S * ((newest + b) % 10) + r) (pos 0))

-- the ten vectors that the ring holds, newest first
unfoldable pub ring : ℕ → List ℤ → ℕ → List (List ℤ)
ring S values newest = build 10 (slot_vector S values newest)

-- the slot before the newest: it holds the oldest vector and takes the next one
abbrev pub next_slot : ℕ → ℕ
next_slot newest = (newest + 9) % 10

-- the ring's numbers with a vector pushed
unfoldable pub ring_pushed : ℕ → List ℤ → List ℤ → ℕ → List ℤ
ring_pushed S v values newest = overwrite (2 * S * next_slot newest) (2 * S) (λ r. get_or v r (pos 0)) values
