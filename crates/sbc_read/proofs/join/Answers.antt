-- `sbc_read::join` meets its contract.
-- Assumes nothing.
use native.Mathlib.Omega.{arith}
use Rattle.std.proofs.lemmas.Grind.{common_steps}
use Rattle.sbc_read.proofs.Joined.{joined_none, still_long, same, joined_next, joined_all}
use Rattle.sbc_read.proofs.join.Goals as goal

pub loop-subband-init : goal.loop-subband-init
loop-subband-init c = joined_none c.args.channels.now c.args.blocks.count c.args.flags.now c.requires.long c.requires.eight

pub join_subband-requires-clause-long : goal.join_subband-requires-clause-long
join_subband-requires-clause-long c =
    let l = c.loop-subband in
    still_long c.args.channels.now c.args.blocks.count c.args.flags.now c.args.blocks.at_most_16 l.subband (omega arith) l.channels
    l.invariant

pub join_subband-requires-clause-small : goal.join_subband-requires-clause-small
join_subband-requires-clause-small c k b h hb =
    let n = c.args.blocks.count in
    let l = c.loop-subband in
    rw (same c.args.channels.now n c.args.flags.now c.args.blocks.at_most_16 l.subband (omega arith) l.channels l.invariant k b h hb)
    (c.requires.small k h b l.subband hb)

pub loop-subband-preserved : goal.loop-subband-preserved
loop-subband-preserved c =
    let l = c.loop-subband in
    joined_next c.args.channels.now c.args.blocks.count c.args.flags.now c.args.blocks.at_most_16 l.subband (omega arith) l.channels _
    l.invariant (λ k h. grind (arith, common_steps))

pub returns : goal.returns
returns c =
    let l = c.loop-subband in
    joined_all c.args.channels.now c.args.blocks.count c.args.flags.now l.subband l.channels (omega arith) l.invariant
