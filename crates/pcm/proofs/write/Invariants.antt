-- `pcm::write` meets its contract. The loop's invariant: the bytes of the first i samples are written.
-- Assumes nothing.
use Prim.Native.Nat.{ℕ, ◌*◌}
use mathlib.Core.Path.{◌≡◌}
use mathlib.Core.List.{List, [], ◌∷◌}
use lib.ListN.{get_or, take}
use lib.IntN.{ℤ, pos}
use Rattle.laws.specs.Lists.{collect}
use Rattle.pcm.specs.Samples.{low_byte, high_byte}
use Rattle.pcm.proofs.write.Given as goal

-- the two bytes of sample i
abbrev pub bytes_at : List ℤ → ℕ → List ℕ
bytes_at samples i = low_byte (get_or samples i (pos 0)) ∷ high_byte (get_or samples i (pos 0)) ∷ []

abbrev pub invariant-loop-i : goal.invariant-loop-i
invariant-loop-i l = take (2 * l.i) l.bytes ≡ collect l.i (bytes_at l.samples)
