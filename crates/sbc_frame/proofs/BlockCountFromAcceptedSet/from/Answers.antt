-- `BlockCount::from` meets its contract: an accepted set has at most 16 blocks.
-- Assumes nothing.
use native.Mathlib.Omega.{arith}
use Rattle.sbc_parameters.proofs.Accepted.{ranges}
use Rattle.sbc_frame.proofs.BlockCountFromAcceptedSet.from.Goals as goal

pub invariant_of-result : goal.invariant_of-result
invariant_of-result c = record { at_most_16 = omega (arith, ranges _ c.args.accepted.is_accepted) }
