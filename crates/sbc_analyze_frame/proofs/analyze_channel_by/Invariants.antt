-- `sbc_analyze_frame::analyze_channel_by` meets its contract. The loop's invariant: the history is that after the blocks before `block`,
-- and their subband samples stand in their rows.
-- Assumes nothing.
use Prim.Native.Nat.{◌*◌, ◌≤◌}
use mathlib.Core.Path.{◌≡◌}
use Rattle.sbc_frame.specs.Channels.{pcm_in, analyze_blocks, analysis_after}
use Rattle.sbc_frame.specs.Arrays.{samples_array}
use Rattle.sbc_analyze_frame.proofs.analyze_channel_by.Given as goal

abbrev pub invariant-loop-block : goal.invariant-loop-block
invariant-loop-block g l =
    let pcm = pcm_in l.channel.count l.channel.index (l.fn.blocks.count * g.B.Bank.SUBBANDS) l.input in
    (l.block ≤ l.fn.blocks.count)
    × (l.history ≡ analysis_after l.block g.B.Bank.SUBBANDS l.initial.history pcm)
    × (l.samples.rows ≡ samples_array l.block (analyze_blocks l.block g.B.Bank.SUBBANDS l.initial.history pcm))
