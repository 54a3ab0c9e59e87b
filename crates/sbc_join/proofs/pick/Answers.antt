-- `pick` meets its contract.
-- Assumes nothing.
use Rattle.std.proofs.Common.{rules}
use Rattle.laws.proofs.Made.{made}
use Rattle.sbc_join.specs.Joining.{picked_row}
use Rattle.sbc_join.proofs.pick.Goals as goal

pub returns : goal.returns
unfolding picked_row
returns g c d = made c.from_fn.result _ d c.from_fn.ensures.items (λ s y q low call. search rules)
