-- `sbc_play::put_block` meets its contract. The loop's invariant: the first j samples stand in the channel's places, and all other
-- places hold what they held.
-- Assumes nothing.
use native.Mathlib.Omega.{arith}
use borrow.Author.Rules.{rules}
use Rattle.sbc_play.proofs.Weaving.{placed-none, placed-next}
use Rattle.sbc_play.proofs.put_block.Goals as goal

pub loop-j-init : goal.loop-j-init
loop-j-init g c = (omega arith, placed-none _ _ _ _ _)

pub loop-j-preserved : goal.loop-j-preserved
loop-j-preserved g c = (omega arith, rw (c.SUBBANDS-subbands.ensures) (search (rules, placed-next)))
