-- `sbc_analyze::analysis::Windows::of` meets its contract. The loop's invariant: the places before k hold Y, which is within the bound, and
-- the others 0.
-- Assumes nothing.
use Prim.Native.Nat.{ℕ, ◌*◌, ◌≤◌, ◌<◌}
use mathlib.Core.Path.{◌≡◌}
use lib.IntN.{nat_abs}
use Rattle.laws.specs.Lists.{build}
use Rattle.laws.specs.Sums.{up_to}
use Rattle.sbc_filterbank.specs.Analysis.{windowed}
use Rattle.sbc_analyze.proofs.analysis.Windows.of.Given as goal

abbrev pub invariant-loop-k : goal.invariant-loop-k
invariant-loop-k g l =
    (l.k ≤ 2 * g.B.Bank.SUBBANDS) × (l.values ≡ build 16 (up_to l.k (windowed g.B.Bank.SUBBANDS l.history)))
    × ((i : ℕ) → i < l.k → nat_abs (windowed g.B.Bank.SUBBANDS l.history i) ≤ 400000000)
