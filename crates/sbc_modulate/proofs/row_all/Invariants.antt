-- `sbc_modulate::row_all` meets its contract. The loop's invariant: the places before m hold the rows, and the others 0.
-- Assumes nothing.
use Prim.Native.Nat.{◌≤◌}
use mathlib.Core.Path.{◌≡◌}
use Rattle.laws.specs.Lists.{build}
use Rattle.laws.specs.Sums.{up_to}
use Rattle.sbc_modulate.specs.Fold.{row_sum}
use Rattle.sbc_modulate.proofs.row_all.Given as goal

abbrev pub invariant-loop-m : goal.invariant-loop-m
invariant-loop-m g l = (l.m ≤ g.B.Bank.SUBBANDS) × (l.rows ≡ build 8 (up_to l.m
    (row_sum g.B.Bank.SUBBANDS l.pairs.sums l.pairs.differences)))
