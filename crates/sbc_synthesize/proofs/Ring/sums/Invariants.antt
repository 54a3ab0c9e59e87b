-- `sbc_synthesize::Ring::sums` meets its contract. The loop's invariant: the sums are those over the vectors before b.
-- Assumes nothing.
use Prim.Native.Nat.{◌≤◌}
use Rattle.sbc_filterbank.specs.Ring.{ring}
use Rattle.sbc_synthesize.specs.Summing.{OutputSums}
use Rattle.sbc_synthesize.proofs.Ring.sums.Given as goal

abbrev pub invariant-loop-b : goal.invariant-loop-b
invariant-loop-b g l =
    let S = g.B.Bank.SUBBANDS in (l.b ≤ 10) × OutputSums S (ring S l.self.values.now l.self.newest) l.b l.sums
