-- `pcm::read` meets its contract. The loop's invariant: the first i samples are read.
-- Assumes nothing.
use Prim.Native.Nat.{ℕ, ◌+◌, ◌*◌}
use mathlib.Core.Path.{◌≡◌}
use mathlib.Core.List.{List}
use lib.ListN.{get_or, take}
use lib.IntN.{ℤ}
use Rattle.laws.specs.Lists.{build}
use Rattle.pcm.specs.Samples.{sample_of}
use Rattle.pcm.proofs.read.Given as goal

-- sample i of the bytes
abbrev pub sample_at : List ℕ → ℕ → ℤ
sample_at bytes i = sample_of (get_or bytes (2 * i) 0) (get_or bytes (2 * i + 1) 0)

abbrev pub invariant-loop-i : goal.invariant-loop-i
invariant-loop-i l = take l.i l.samples ≡ build l.i (sample_at l.bytes)
