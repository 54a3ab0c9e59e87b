-- `sbc_analyze::analysis::Sums::outputs` meets its contract. The loop's invariant: the places before i hold the outputs, and the others 0.
-- Assumes nothing.
use Prim.Native.Nat.{◌≤◌}
use mathlib.Core.Path.{◌≡◌}
use lib.IntN.{pos}
use lib.ListN.{get_or}
use Rattle.laws.specs.Lists.{build}
use Rattle.laws.specs.Sums.{up_to}
use Rattle.sbc_analyze.specs.Fold.{output_value}
use Rattle.sbc_analyze.proofs.analysis.Sums.outputs.Given as goal

abbrev pub invariant-loop-i : goal.invariant-loop-i
invariant-loop-i g l = (l.i ≤ g.B.Bank.SUBBANDS)
    × (l.samples
    ≡ build 8 (up_to l.i (output_value g.B.Bank.SUBBANDS (λ n. get_or l.self.even n (pos 0)) (λ n. get_or l.self.odd n (pos 0)))))
