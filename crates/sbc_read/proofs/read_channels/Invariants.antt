-- `sbc_read::read_channels` meets its contract. The loop's invariant: where the values of the next channel begin; and the channels
-- passed are read, and the others are zeros.
-- Assumes nothing.
use Prim.Native.Nat.{ℕ, ◌<◌}
use mathlib.Core.Path.{◌≡◌}
use lib.ListN.{length}
use Rattle.sbc_frame.specs.Arrays.{rows_of}
use Rattle.sbc_read.specs.Reading.{start, read_samples}
use Rattle.sbc_read.proofs.Starts.{passed}
use Rattle.sbc_read.proofs.read_channels.Given as goal

abbrev pub invariant-loop-channel : goal.invariant-loop-channel
invariant-loop-channel l =
    let p = l.accepted.set in
    (length l.channels ≡ 2) × (l.position ≡ start p l.factors.rows l.channel)
    × ((c : ℕ) → c < 2 → rows_of l.channels c ≡ passed (read_samples p l.bytes l.factors.rows) l.channel c)
