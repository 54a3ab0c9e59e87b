-- `sbc_analyze_frame::analyze_channels` meets its contract. The loop's invariant: the channels before `index` are analyzed, and the others
-- are as they were.
-- Assumes nothing.
use Prim.Native.Nat.{◌<◌}
use mathlib.Core.Path.{◌≡◌, refl, ap, ◌∙◌}
use mathlib.Core.List.{List, []}
use native.Mathlib.Omega.{arith}
use lib.ListN.{length, length-set}
use lib.IntN.{ℤ}
use borrow.Author.Rules.{rules}
use Rattle.std.specs.Prelude.{map, ◌*◌}
use Rattle.std.proofs.lemmas.List.{length-map}
use Rattle.sbc_filterbank.specs.declared.analysis.Analysis.{Analysis}
use Rattle.sbc_filterbank.proofs.ByChannel.{none_replaced}
use Rattle.sbc_frame.specs.Arrays.{samples_array}
use Rattle.sbc_frame.specs.Channels.{pcm_in, analyze_blocks}
use Rattle.sbc_analyze_frame.proofs.Channels.{history-there, channel-moved, all-moved, silent_at, rows-before, rows-behind}
use Rattle.sbc_analyze_frame.proofs.analyze_channels.Goals as goal

pub loop-index-init : goal.loop-index-init
loop-index-init c =
    let two : length c.args.histories.now ≡ 2 = search rules in
    (omega arith, none_replaced _ _ _ (length-map _ _ ∙ two), λ k h. absurd (omega arith), refl, λ k _ h. silent_at k h)

pub analyze_channel-requires : goal.analyze_channel-requires
analyze_channel-requires c = (c.requires.0, c.requires.3)

pub loop-index-preserved : goal.loop-index-preserved
loop-index-preserved c =
    let k = c.args.blocks.count in
    let S = c.args.subbands in
    let C = c.args.count in
    let H = map (λ (a : Analysis). a.history) c.args.histories.now in
    let input = c.args.input.now in
    let turn = c.loop-index in
    let made = c.analyze_channel.ensures in
    let none : Analysis = record { history = [] } in
    let there : turn.index < 2 = omega arith in
    let old = history-there k S C H input turn.index turn.histories none turn.invariant.1 there in (
      omega arith,
      channel-moved k S C H input turn.index turn.histories none turn.invariant.1 there _ made.history,
      rows-before turn.index turn.samples _ _ (omega (arith, there, turn.invariant.3)) turn.invariant.2
          (made.samples ∙ ap (λ (X : List ℤ). samples_array k (analyze_blocks k S X (pcm_in C turn.index (k * S) input))) old),
      length-set turn.samples turn.index _ ∙ turn.invariant.3,
      rows-behind turn.index turn.samples _ _ turn.invariant.4,
    )

pub returns-clause-histories : goal.returns-clause-histories
returns-clause-histories c =
    all-moved c.args.blocks.count c.args.subbands c.args.count _ c.args.input.now c.loop-index.index _ (omega arith) c.loop-index.invariant.1
