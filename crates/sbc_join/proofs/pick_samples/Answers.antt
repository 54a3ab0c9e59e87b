-- `pick_samples` meets its contract: one row more is picked.
-- Assumes nothing.
use lib.IntN.{pos}
use Rattle.std.proofs.Common.{rules}
use Rattle.sbc_frame.proofs.Flagged.{flagged_none}
use Rattle.sbc_join.proofs.Picked.{picked_next}
use Rattle.sbc_join.proofs.pick_samples.Goals as goal

pub loop-block-init : goal.loop-block-init
loop-block-init c = search (rules, flagged_none)

pub loop-block-preserved : goal.loop-block-preserved
loop-block-preserved c = let row = c.pick.ensures (pos 0) in search (rules, picked_next)
