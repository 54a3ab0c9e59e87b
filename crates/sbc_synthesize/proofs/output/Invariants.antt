-- `sbc_synthesize::output` meets its contract. The loop's invariant: the places before j hold the definition's outputs, and the
-- others 0.
-- Assumes nothing.
use Prim.Native.Nat.{◌≤◌}
use mathlib.Core.Path.{◌≡◌}
use lib.IntN.{pos}
use lib.ListN.{get_or}
use Rattle.laws.specs.Lists.{build}
use Rattle.laws.specs.Sums.{up_to}
use Rattle.sbc_filterbank.specs.Synthesis.{rounded}
use Rattle.sbc_synthesize.proofs.output.Given as goal

abbrev pub invariant-loop-j : goal.invariant-loop-j
invariant-loop-j g l = (l.j ≤ g.B.Bank.SUBBANDS) × (l.out ≡ build 8 (up_to l.j (λ n. rounded g.B.Bank.SUBBANDS (get_or l.sums n (pos 0)))))
