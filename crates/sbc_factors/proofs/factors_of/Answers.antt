-- `factors_of` meets its contract.
-- Assumes nothing.
use Rattle.std.proofs.Common.{rules}
use Rattle.laws.proofs.Made.{made}
use Rattle.sbc_factors.specs.Factors.{factors_in}
use Rattle.sbc_factors.proofs.Factors.{factor_of}
use Rattle.sbc_factors.proofs.factors_of.Goals as goal

pub returns : goal.returns
unfolding factors_in
returns c =
    made c.from_fn.result _ 0 c.from_fn.ensures.items
    (λ s y q low call. let e = factor_of c.args.blocks.count c.args.samples.now.rows s low in search rules)
