-- `both_channels` meets its contract.
-- Assumes nothing.
use Rattle.std.proofs.Common.{rules, ◌/◌, ◌%◌, [], get_or}
use Rattle.laws.specs.Lists.{build, collect}
use Rattle.laws.proofs.Made.{made}
use Rattle.sbc_allocation.proofs.both_channels.Goals as goal

pub returns : goal.returns
unfolding build collect
returns c =
    made c.from_fn.result (λ i. get_or (get_or c.args.channels (i % 2) []) (i / 2) 0) 0 c.from_fn.ensures.items
    (λ i y q low call. search rules)
