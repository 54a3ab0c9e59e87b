-- `sbc_read::join_subband` meets its contract. The loop's invariant: the subband's samples are joined in the blocks passed.
-- Assumes nothing.
use Rattle.sbc_read.proofs.Joined.{Stored}
use Rattle.sbc_read.proofs.join_subband.Given as goal

abbrev pub invariant-loop-block : goal.invariant-loop-block
invariant-loop-block l = Stored l.initial.channels l.subband l.block l.channels
