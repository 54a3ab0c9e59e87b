-- `sbc_modulate::push` meets its contract. The loop's invariant: the first r places from `at` on hold V, and all others what they held.
-- Assumes nothing.
use Prim.Native.Nat.{◌*◌, ◌≤◌}
use mathlib.Core.Path.{◌≡◌}
use Rattle.laws.specs.Sums.{overwrite}
use Rattle.sbc_modulate.specs.Fold.{row_value}
use Rattle.sbc_modulate.proofs.push.Given as goal

abbrev pub invariant-loop-r : goal.invariant-loop-r
invariant-loop-r g l = (l.r ≤ 2 * g.B.Bank.SUBBANDS) × (l.values ≡ overwrite l.at l.r (row_value g.B.Bank.SUBBANDS l.rows) l.initial.values)
