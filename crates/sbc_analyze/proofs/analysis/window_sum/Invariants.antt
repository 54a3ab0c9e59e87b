-- `sbc_analyze::analysis::window_sum` meets its contract. The loop's invariant: the sum is that of the terms before j, within its bound.
-- Assumes nothing.
use Prim.Native.Nat.{◌≤◌}
use Rattle.sbc_analyze.proofs.Windows.{WindowSummed}
use Rattle.sbc_analyze.proofs.analysis.window_sum.Given as goal

abbrev pub invariant-loop-j : goal.invariant-loop-j
invariant-loop-j g l = (l.j ≤ 5) × (WindowSummed g.B.Bank.SUBBANDS l.history l.k l.j l.sum)
