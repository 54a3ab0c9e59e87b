-- `pick_factors` meets its contract: what is picked of scale factors is at most 15.
-- Assumes nothing.
use Rattle.std.proofs.Common.{rules}
use Rattle.sbc_code.proofs.Chosen.{picked_low, both_low}
use Rattle.sbc_code.proofs.pick_factors.Goals as goal

pub invariant_of-result-clause-within : goal.invariant_of-result-clause-within
invariant_of-result-clause-within c =
    let plain = c.args.plain.now.within in
    let joined = c.args.joined.now.within in
    let first = c.pick.ensures 0 in
    let second = c.pick-2.ensures 0 in
    both_low _ _ (search (rules, picked_low, plain, joined)) (search (rules, picked_low, plain, joined))
