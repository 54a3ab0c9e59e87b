-- `maxima` meets its contract. The loop's invariant: the greatest absolute values of the blocks passed.
-- Assumes nothing.
use Prim.Native.Nat.{◌≤◌}
use mathlib.Core.Path.{◌≡◌}
use Rattle.sbc_factors.specs.Factors.{maxima_in}
use Rattle.sbc_factors.proofs.maxima.Given as goal

abbrev pub invariant-loop-block : goal.invariant-loop-block
invariant-loop-block l = (l.block ≤ l.fn.blocks.count) × (l.top ≡ maxima_in l.block l.samples.rows)
