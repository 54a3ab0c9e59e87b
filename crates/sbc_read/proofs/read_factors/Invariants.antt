-- `sbc_read::read_factors` meets its contract. The loop's invariant: the scale factors of the channels passed are read, and the others
-- are 0.
-- Assumes nothing.
use mathlib.Core.Path.{◌≡◌}
use lib.Dec.{ltb}
use Rattle.std.specs.Prelude.{if◌then◌else◌}
use Rattle.laws.specs.Lists.{build}
use Rattle.sbc_frame.specs.Layout.{factor_position}
use Rattle.sbc_read.specs.Reading.{row_at}
use Rattle.sbc_read.proofs.read_factors.Given as goal

abbrev pub invariant-loop-channel : goal.invariant-loop-channel
invariant-loop-channel l =
    let p = l.fn.accepted.set in
    l.rows ≡ build 2 (λ c. row_at l.bytes (factor_position p c 0) 4 (if ltb c l.channel then p.subbands else 0))
