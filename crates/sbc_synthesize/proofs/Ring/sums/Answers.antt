-- `sbc_synthesize::Ring::sums` meets its contract. The loop's invariant: the sums are those over the vectors before b.
-- Assumes nothing.
use native.Mathlib.Omega.{arith}
use Rattle.sbc_synthesize.proofs.Blocks.{sums_none}
use Rattle.sbc_synthesize.proofs.Ring.sums.Goals as goal

pub loop-b-init : goal.loop-b-init
loop-b-init g c = (omega arith, sums_none g.B.Bank.SUBBANDS _)
