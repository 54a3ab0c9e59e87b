-- `sbc_play::play_frame` meets its contract. The loop's invariant: the channels before `index` are played, from the
-- histories as they were passed.
-- Assumes nothing.
use Prim.Native.Nat.{◌≤◌}
use mathlib.Core.Path.{◌≡◌}
use Rattle.sbc_parameters.specs.Sizes.{samples_per_channel}
use Rattle.sbc_filterbank.proofs.ByChannel.{replaced}
use Rattle.sbc_frame.specs.Channels.{no_synthesis}
use Rattle.sbc_play.proofs.Weaving.{woven}
use Rattle.sbc_play.proofs.Played.{after_of, channel_of}
use Rattle.sbc_play.proofs.play_frame.Given as goal

abbrev pub invariant-loop-index : goal.invariant-loop-index
invariant-loop-index l =
    let p = l.samples.accepted.set in
    let H = l.fn.histories in
    (l.index ≤ l.count)
    × (l.histories ≡ replaced (after_of p H l.samples.channels) no_synthesis H l.index)
    × (l.output ≡ woven l.count (samples_per_channel p) (channel_of p H l.samples.channels) l.initial.output l.index)
