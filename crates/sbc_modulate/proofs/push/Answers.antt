-- `sbc_modulate::push` meets its contract. The loop's invariant: the first r places from `at` on hold V, and all others what they held.
-- Assumes nothing.
use native.Mathlib.Omega.{arith}
use mir.Syntax.{w32}
use Rattle.laws.proofs.Arrays.{overwrite-none, overwritten}
use Rattle.sbc_modulate.specs.Fold.{row_value}
use Rattle.sbc_modulate.proofs.push.Goals as goal

pub loop-r-init : goal.loop-r-init
loop-r-init g c = (omega arith, overwrite-none _ _ _)

pub loop-r-preserved : goal.loop-r-preserved
loop-r-preserved g c = (
  omega arith,
  overwritten w32 c.args.at c.loop-r.r (row_value g.B.Bank.SUBBANDS c.args.rows.now) _ _ _
      (record { sfits = c.modulate.type_inv }) c.loop-r.invariant.1 c.modulate.ensures,
)
