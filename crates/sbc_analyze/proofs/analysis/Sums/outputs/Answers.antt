-- `sbc_analyze::analysis::Sums::outputs` meets its contract. The loop's invariant: the places before i hold the outputs, and the others 0.
-- Assumes nothing.
use native.Mathlib.Omega.{arith}
use mir.Syntax.{w32}
use Rattle.laws.proofs.Arrays.{fill_none, stored}
use Rattle.sbc_filterbank.proofs.Bands.{bands-le}
use Rattle.sbc_analyze.proofs.analysis.Sums.outputs.Goals as goal

pub loop-i-init : goal.loop-i-init
loop-i-init g c = (omega arith, fill_none 8 _)

pub loop-i-preserved : goal.loop-i-preserved
loop-i-preserved g c = (
  omega arith,
  stored w32 8 _ _ _ _ (record { sfits = c.output.type_inv }) (omega (arith, bands-le g.met.B.Bank.bands))
      c.loop-i.invariant.1 c.output.ensures,
)
