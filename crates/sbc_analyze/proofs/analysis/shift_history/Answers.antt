-- `sbc_analyze::analysis::shift_history` meets its contract.
-- Assumes nothing.
use native.Mathlib.Omega.{arith}
use Rattle.sbc_analyze.proofs.History.{moved-is}
use Rattle.sbc_analyze.proofs.analysis.shift_history.Goals as goal

pub returns : goal.returns
returns g c =
    let moved = rw (c.SUBBANDS.ensures, c.SUBBANDS-2.ensures) at c.copy_within.ensures.by_index in
    moved-is g.B.Bank.SUBBANDS _ c.args.history.now _ (omega arith) c.copy_within.ensures.len moved.0 moved.1 moved.2
