-- `sbc_analyze::analysis::Windows::columns` meets its contract. The loop's invariant: the places before n hold the columns, and the others
-- 0.
-- Assumes nothing.
use Prim.Native.Nat.{◌+◌, ◌*◌, ◌/◌, ◌≤◌}
use mathlib.Core.Path.{◌≡◌}
use lib.IntN.{pos}
use lib.ListN.{get_or}
use Rattle.laws.specs.Lists.{build}
use Rattle.laws.specs.Sums.{up_to}
use Rattle.sbc_analyze.specs.Fold.{fold_column}
use Rattle.sbc_analyze.proofs.analysis.Windows.columns.Given as goal

abbrev pub invariant-loop-n : goal.invariant-loop-n
invariant-loop-n g l =
    let S = g.B.Bank.SUBBANDS in
    (l.n ≤ S / 2) × (l.even ≡ build 4 (up_to l.n (λ n. fold_column S (λ k. get_or l.self.values k (pos 0)) (2 * n))))
    × (l.odd ≡ build 4 (up_to l.n (λ n. fold_column S (λ k. get_or l.self.values k (pos 0)) (2 * n + 1))))
