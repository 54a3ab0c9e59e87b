-- `join` meets its contract. The loop's invariant: the blocks passed are joined.
-- Assumes nothing.
use Prim.Native.Nat.{◌≤◌}
use mathlib.Core.Path.{◌≡◌}
use Rattle.sbc_frame.specs.Arrays.{rows_of}
use Rattle.sbc_join.proofs.Joined.{joined_to}
use Rattle.sbc_join.proofs.join.Given as goal

abbrev pub invariant-loop-b : goal.invariant-loop-b
invariant-loop-b l = (l.b ≤ 16) × (l.joined ≡ joined_to (rows_of l.samples 0) (rows_of l.samples 1) l.b)
