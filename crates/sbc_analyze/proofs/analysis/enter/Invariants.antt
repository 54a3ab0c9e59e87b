-- `sbc_analyze::analysis::enter` meets its contract. The loop's invariant: the first k places hold the newest samples, and the others what
-- they held.
-- Assumes nothing.
use Prim.Native.Nat.{◌≤◌}
use mathlib.Core.Path.{◌≡◌}
use lib.ListN.{length, get_or}
use lib.IntN.{pos}
use Rattle.laws.specs.Lists.{build}
use Rattle.sbc_analyze.specs.Fold.{spliced_at, entering}
use Rattle.sbc_analyze.proofs.analysis.enter.Given as goal

abbrev pub invariant-loop-k : goal.invariant-loop-k
invariant-loop-k g l = (l.k ≤ g.B.Bank.SUBBANDS)
    × (l.history ≡ build (length l.initial.history)
    (spliced_at l.k (entering g.B.Bank.SUBBANDS l.input) (λ i. get_or l.initial.history i (pos 0))))
