-- `pick_samples` meets its contract. The loop's invariant: the rows of the blocks passed are picked, and the others are
-- as they were at entry.
-- Assumes nothing.
use Prim.Native.Nat.{◌≤◌}
use mathlib.Core.Path.{◌≡◌}
use Rattle.sbc_frame.specs.Encoding.{sample_at}
use Rattle.sbc_frame.specs.Arrays.{with_flagged}
use Rattle.sbc_join.proofs.pick_samples.Given as goal

abbrev pub invariant-loop-block : goal.invariant-loop-block
invariant-loop-block l =
    (l.block ≤ l.fn.blocks.count)
    × (l.samples.rows ≡ with_flagged l.block l.flags (sample_at l.joined.rows) l.initial.samples.rows)
