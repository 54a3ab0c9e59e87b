-- `sbc_read::join` meets its contract. The loop's invariant: the subbands passed are joined where their flag is set.
-- Assumes nothing.
use Rattle.sbc_read.proofs.Joined.{Joined}
use Rattle.sbc_read.proofs.join.Given as goal

abbrev pub invariant-loop-subband : goal.invariant-loop-subband
invariant-loop-subband l = Joined l.initial.channels l.blocks.count l.flags l.subband l.channels
