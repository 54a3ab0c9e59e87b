-- `raise` meets its contract.
-- Assumes nothing.
use Rattle.std.proofs.Common.{rules}
use Rattle.laws.proofs.Made.{made}
use Rattle.sbc_factors.specs.Factors.{raised}
use Rattle.sbc_factors.proofs.raise.Goals as goal

pub returns : goal.returns
unfolding raised
returns c = made c.from_fn.result _ 0 c.from_fn.ensures.items (λ s y q low call. search rules)
