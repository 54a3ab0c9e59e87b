-- `sbc_play::play_channel_by` meets its contract. The loop's invariant: the history is that after the blocks before `block`, and their
-- samples stand in the channel's places.
-- Assumes nothing.
use native.Mathlib.Omega.{arith}
use Rattle.sbc_play.proofs.Played.{after_none, pcm-none, after_next, pcm-next}
use Rattle.sbc_play.proofs.play_channel_by.Goals as goal

pub loop-block-init : goal.loop-block-init
loop-block-init g c =
    let S = g.B.Bank.SUBBANDS in
    let xs = c.args.samples.now.rows in (
      omega arith,
      after_none S c.args.history.now xs,
      pcm-none S c.args.history.now xs c.args.channel.count c.args.channel.index c.args.output.now,
    )

pub loop-block-preserved : goal.loop-block-preserved
loop-block-preserved g c =
    let S = g.B.Bank.SUBBANDS in
    let h = c.args.history.now in
    let xs = c.args.samples.now.rows in
    let turn = c.loop-block in (
      omega arith,
      after_next S h xs turn.block turn.history turn.invariant.1 _ c.play_block.ensures.history,
      pcm-next S h xs turn.block turn.history turn.invariant.1 c.args.channel.count c.args.channel.index c.args.output.now _ _
          turn.invariant.2 c.play_block.ensures.output,
    )
