-- `sbc_analyze_frame::analyze_channels` meets its contract. The loop's invariant: the channels before `index` are analyzed, and the others
-- are as they were.
-- Assumes nothing.
use Prim.Native.Nat.{ℕ, ◌≤◌, ◌<◌}
use mathlib.Core.Path.{◌≡◌}
use lib.ListN.{length}
use Rattle.std.specs.Prelude.{map}
use Rattle.sbc_frame.specs.Arrays.{rows_of, no_samples}
use Rattle.sbc_filterbank.proofs.ByChannel.{replaced}
use Rattle.sbc_frame.specs.Channels.{no_analysis}
use Rattle.sbc_analyze_frame.proofs.Channels.{history_after, samples_of}
use Rattle.sbc_analyze_frame.proofs.analyze_channels.Given as goal

abbrev pub invariant-loop-index : goal.invariant-loop-index
invariant-loop-index l =
    let k = l.blocks.count in
    let H = map (λ a. a.history) l.initial.histories in
    (l.index ≤ l.count)
    × (map (λ a. a.history) l.histories ≡ replaced (history_after k l.subbands l.count H l.input) no_analysis H l.index)
    × ((c : ℕ) → c < l.index → rows_of l.samples c ≡ samples_of k l.subbands l.count H l.input c)
    × (length l.samples ≡ 2)
    × ((c : ℕ) → l.index ≤ c → c < 2 → rows_of l.samples c ≡ no_samples)
