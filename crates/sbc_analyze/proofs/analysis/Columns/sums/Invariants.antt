-- `sbc_analyze::analysis::Columns::sums` meets its contract. The loop's invariant: the places before i hold the sums, and the others 0.
-- Assumes nothing.
use Prim.Native.Nat.{◌/◌, ◌≤◌}
use mathlib.Core.Path.{◌≡◌}
use Rattle.laws.specs.Lists.{build}
use Rattle.laws.specs.Sums.{up_to}
use Rattle.sbc_analyze.specs.Fold.{column_sum}
use Rattle.sbc_analyze.proofs.analysis.Columns.sums.Given as goal

abbrev pub invariant-loop-i : goal.invariant-loop-i
invariant-loop-i g l =
    let S = g.B.Bank.SUBBANDS in
    (l.i ≤ S / 2) × (l.even ≡ build 4 (up_to l.i (column_sum S l.self.even 0)))
    × (l.odd ≡ build 4 (up_to l.i (column_sum S l.self.odd (S / 2))))
