-- `index_of` meets its contract. The invariant: the place among the values that are left, and those passed, is the place.
-- Assumes nothing.
use mathlib.Core.Path.{◌≡◌}
use Prim.Native.Nat.{◌+◌}
use lib.ListN.{drop}
use Rattle.laws.specs.Lists.{index_of}
use Rattle.laws.proofs.index_of.Given as goal

abbrev pub invariant-loop-i : goal.invariant-loop-i
invariant-loop-i l = l.i + index_of l.value (drop l.i l.values) ≡ index_of l.value l.values
