-- `sbc_read::read_frame` meets its contract, by the laws of Received.
-- Assumes nothing.
use mathlib.Core.Path.{ap, ◌∙◌}
use native.Mathlib.Omega.{arith}
use borrow.Author.Rules.{rules}
use Rattle.sbc_parameters.proofs.Accepted.{frame-length-range}
use Rattle.sbc_frame.proofs.Sizes.{row-sizes}
use Rattle.sbc_frame.specs.Arrays.{rows_of, with_flagged}
use Rattle.sbc_read.specs.Reading.{row_at, restored_at}
use Rattle.sbc_read.proofs.Joined.{joined_small}
use Rattle.sbc_read.proofs.Received.{read_eight, read_small, frame_is}
use Rattle.sbc_read.proofs.read_frame.Goals as goal

pub padded-bytes-requires : goal.padded-bytes-requires
padded-bytes-requires c =
    let frame = c.args.frame in
    omega (arith, frame.whole, (frame-length-range frame.accepted.set frame.accepted.is_accepted).1)

pub read_row-flags-requires : goal.read_row-flags-requires
read_row-flags-requires c =
    let joins = (row-sizes c.args.frame.accepted.set c.args.frame.accepted.is_accepted).joins-high in
    (omega arith, omega arith, omega (arith, c.join_count.ensures.0, joins), omega (arith, c.join_count.ensures.0, joins))

pub join-requires-clause-small : goal.join-requires-clause-small
join-requires-clause-small c k h b s hb =
    let frame = c.args.frame in
    read_small frame.accepted.set frame.accepted.is_accepted frame.bytes.now frame.whole c.read_channels-channels.result
    c.padded-bytes.ensures c.read_factors-factors.ensures c.read_channels-channels.ensures c.read_factors-factors.result.within k h b s
    (omega (arith, c.from.ensures))

pub join-requires-clause-eight : goal.join-requires-clause-eight
join-requires-clause-eight c k b h hb =
    let frame = c.args.frame in
    read_eight frame.accepted.set frame.accepted.is_accepted frame.bytes.now frame.whole c.read_channels-channels.result
    c.padded-bytes.ensures c.read_factors-factors.ensures c.read_channels-channels.ensures k h b (omega (arith, c.from.ensures))

pub invariant_of-result : goal.invariant_of-result
invariant_of-result c =
    let frame = c.args.frame in
    let small = read_small frame.accepted.set frame.accepted.is_accepted frame.bytes.now frame.whole c.read_channels-channels.result
    c.padded-bytes.ensures c.read_factors-factors.ensures c.read_channels-channels.ensures c.read_factors-factors.result.within in
    record {
      small = λ k b s hb.
          joined_small c.read_channels-channels.result c.from.result.count c.read_row-flags.result c.from.result.at_most_16
          (λ k h b s l. small k h b s (omega (arith, c.from.ensures))) c.join.new.channels (search rules) c.join.ensures k b s
          (omega (arith, c.from.ensures));
    }

pub returns-clause-channels : goal.returns-clause-channels
returns-clause-channels c k h =
    let frame = c.args.frame in
    c.join.ensures k h
    ∙ (λ i. with_flagged (c.from.ensures i) ((c.read_row-flags.ensures ∙ ap (row_at c.padded-bytes.result 32 1) c.join_count.ensures.0) i)
    (restored_at c.read_channels-channels.result k) (rows_of c.read_channels-channels.result k))
    ∙ frame_is frame.accepted.set frame.accepted.is_accepted frame.bytes.now frame.whole c.read_channels-channels.result
    c.padded-bytes.ensures c.read_factors-factors.ensures c.read_channels-channels.ensures k h
