-- `code_joint` meets its contract: each part of what it gives back is that of `joint_coding`.
-- Assumes nothing.
use Rattle.std.proofs.Common.{rules}
use Rattle.sbc_code.proofs.Chosen.{joint_is}
use Rattle.sbc_code.proofs.code_joint.Goals as goal

pub returns : goal.returns
returns c = let same = c.join-joined.ensures in search (rules, joint_is, same)
