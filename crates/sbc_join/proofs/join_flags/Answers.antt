-- `join_flags` meets its contract.
-- Assumes nothing.
use Rattle.std.proofs.Common.{rules}
use Rattle.laws.proofs.Made.{made}
use Rattle.laws.specs.Bits.{digit}
use Rattle.sbc_join.specs.Joining.{join_row}
use Rattle.sbc_join.proofs.join_flags.Goals as goal

pub returns : goal.returns
unfolding join_row digit
returns c = made c.from_fn.result _ 0 c.from_fn.ensures.items (λ s y q low call. search rules)
