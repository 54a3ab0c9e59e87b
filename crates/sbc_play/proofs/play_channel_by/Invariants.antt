-- `sbc_play::play_channel_by` meets its contract. The loop's invariant: the history is that after the blocks before `block`, and their
-- samples stand in the channel's places.
-- Assumes nothing.
use Prim.Native.Nat.{◌*◌, ◌≤◌}
use mathlib.Core.Path.{◌≡◌}
use Rattle.sbc_frame.specs.Channels.{synthesis_after}
use Rattle.sbc_play.specs.Playing.{blocks_in, placed}
use Rattle.sbc_play.proofs.Played.{pcm_of}
use Rattle.sbc_play.proofs.play_channel_by.Given as goal

abbrev pub invariant-loop-block : goal.invariant-loop-block
invariant-loop-block g l =
    let S = g.B.Bank.SUBBANDS in
    (l.block ≤ l.fn.blocks.count)
    × (l.history ≡ synthesis_after S l.initial.history (blocks_in l.block S l.samples.rows))
    × (l.output
    ≡ placed l.channel.count l.channel.index 0 (l.block * S) (pcm_of S l.initial.history l.samples.rows l.block) l.initial.output)
