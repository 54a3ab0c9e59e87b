-- `sbc_play::play_frame` meets its contract. The loop's invariant: the channels before `index` are played.
-- Assumes nothing.
use Prim.Native.Nat.{◌≤◌, ◌<◌}
use mathlib.Core.Path.{◌≡◌, ◌∙◌}
use mathlib.Core.List.{[]}
use native.Mathlib.Omega.{arith}
use lib.ListN.{length}
use borrow.Author.Rules.{rules}
use Rattle.std.proofs.lemmas.List.{set-get_or}
use Rattle.sbc_parameters.specs.Sizes.{frame_samples}
use Rattle.sbc_parameters.proofs.Accepted.{channels-range}
use Rattle.sbc_filterbank.specs.declared.synthesis.Synthesis.{Synthesis}
use Rattle.sbc_filterbank.proofs.ByChannel.{none_replaced}
use Rattle.sbc_frame.proofs.ByBlock.{asked}
use Rattle.sbc_play.proofs.Weaving.{length-woven, woven-none, woven-is}
use Rattle.sbc_play.proofs.Played.{history-played, channel-woven, all-played}
use Rattle.sbc_play.proofs.play_frame.Goals as goal

-- what the code reads where an array has no such history
abbrev none : Synthesis
none = record { values = []; newest = 0 }

pub loop-index-init : goal.loop-index-init
loop-index-init c =
    let two : length c.args.histories.now ≡ 2 = search rules in
    -- the loop begins with the histories as they were passed: told by what they hold, and not by how they came there
    (omega arith, grind (arith, set-get_or) ∙ none_replaced _ _ c.args.histories.now two, woven-none _ _ _ _)

pub play_channel-requires : goal.play_channel-requires
play_channel-requires c =
    let samples = c.args.samples.now in
    let room : frame_samples samples.accepted.set ≤ length c.loop-index.output =
    rw c.loop-index.invariant.2 (rw length-woven c.requires) in
    let all = asked samples.accepted.set c.loop-index.index _ _ samples.accepted.is_accepted (c.from-count.ensures ∙ c.channels.ensures)
    c.loop-index-test.true room in
    (all.4, λ b s h. samples.small c.loop-index.index b s h)

pub loop-index-preserved : goal.loop-index-preserved
loop-index-preserved c =
    let samples = c.args.samples.now in
    let p = samples.accepted.set in
    let turn = c.loop-index in
    let count = c.from-count.ensures ∙ c.channels.ensures in
    let there : turn.index < 2 = omega (arith, channels-range p) in (
      omega arith,
      history-played p c.args.histories.now samples.channels turn.index turn.histories none turn.invariant.1 there _
          c.play_channel.ensures.history,
      channel-woven p c.args.histories.now samples.channels turn.index turn.histories none turn.invariant.1 there _ c.args.output.now _ _
          turn.invariant.2 c.play_channel.ensures.output,
    )

pub returns-clause-histories : goal.returns-clause-histories
returns-clause-histories c =
    let samples = c.args.samples.now in
    let count = c.from-count.ensures ∙ c.channels.ensures in
    all-played samples.accepted.set c.args.histories.now samples.channels c.loop-index.index _ (omega (arith, count))
    c.loop-index.invariant.1

pub returns-clause-output : goal.returns-clause-output
returns-clause-output c =
    let p = c.args.samples.now.accepted.set in
    let count = c.from-count.ensures ∙ c.channels.ensures in
    c.loop-index.invariant.2
    ∙ woven-is p _ c.args.output.now (omega (arith, channels-range p)) c.requires _ c.loop-index.index count (omega (arith, count))
