-- `sbc_modulate::row_all` meets its contract. The loop's invariant: the places before m hold the rows, and the others 0.
-- Assumes nothing.
use native.Mathlib.Omega.{arith}
use mir.Syntax.{w64}
use Rattle.laws.proofs.Arrays.{fill_none, stored}
use Rattle.sbc_filterbank.proofs.Bands.{bands-le}
use Rattle.sbc_modulate.proofs.row_all.Goals as goal

pub loop-m-init : goal.loop-m-init
loop-m-init g c = (omega arith, fill_none 8 _)

pub loop-m-preserved : goal.loop-m-preserved
loop-m-preserved g c = (
  omega arith,
  stored w64 8 _ _ _ _ (record { sfits = c.row.type_inv }) (omega (arith, bands-le g.met.B.Bank.bands))
      c.loop-m.invariant.1 c.row.ensures,
)
