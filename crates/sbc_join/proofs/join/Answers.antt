-- `join` meets its contract: no block is joined yet, one more, and all.
-- Assumes nothing.
use Rattle.std.proofs.Common.{rules}
use Rattle.sbc_join.proofs.Joined.{joined_none, joined_next, joined_all}
use Rattle.sbc_join.proofs.join.Goals as goal

pub loop-b-init : goal.loop-b-init
loop-b-init c = search (rules, joined_none)

pub loop-b-preserved : goal.loop-b-preserved
loop-b-preserved c = search (rules, joined_next)

pub returns : goal.returns
returns c = search (rules, joined_all)
