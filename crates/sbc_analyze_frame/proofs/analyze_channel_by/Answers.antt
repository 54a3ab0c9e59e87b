-- `sbc_analyze_frame::analyze_channel_by` meets its contract. The loop's invariant: the history is that after the blocks before `block`,
-- and their subband samples stand in their rows.
-- Assumes nothing.
use native.Mathlib.Omega.{arith}
use Rattle.sbc_frame.proofs.Columns.{array_none}
use Rattle.sbc_analyze_frame.proofs.Analyzed.{analysis-none, analysis-next, array-next}
use Rattle.sbc_analyze_frame.proofs.analyze_channel_by.Goals as goal

pub loop-block-init : goal.loop-block-init
loop-block-init g c = (omega arith, analysis-none _ _ _, array_none 0 _)

pub loop-block-preserved : goal.loop-block-preserved
loop-block-preserved g c =
    let block = c.analyze_block in
    let turn = c.loop-block in
    let S = g.B.Bank.SUBBANDS in
    let channel = c.args.channel in (
      omega arith,
      analysis-next S channel.count channel.index c.args.blocks.count turn.block c.args.history.now c.args.input.now _ _
          c.loop-block-test.true turn.invariant.1 block.ensures.history,
      array-next S channel.count channel.index c.args.blocks.count turn.block c.args.history.now c.args.input.now _ _ c.loop-block-test.true
          turn.invariant.1 block.ensures.history g.met.B.Bank.bands _ _ block.ensures.outputs turn.invariant.2,
    )
