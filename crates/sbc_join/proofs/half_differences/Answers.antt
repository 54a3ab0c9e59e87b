-- `half_differences` meets its contract.
-- Assumes nothing.
use Rattle.std.proofs.Common.{rules, pos}
use Rattle.laws.proofs.Made.{made}
use Rattle.sbc_join.specs.Joining.{half_differences}
use Rattle.sbc_join.proofs.half_differences.Goals as goal

pub returns : goal.returns
unfolding half_differences
returns c = made c.from_fn.result _ (pos 0) c.from_fn.ensures.items (λ s y q low call. search rules)
