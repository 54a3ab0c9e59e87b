-- `Values::read` meets its contract. The loop's invariant: where the next subband's first value stands; and the subbands passed have
-- their samples, the others and what is behind the blocks zeros.
-- Assumes nothing.
use Prim.Native.Nat.{◌+◌}
use mathlib.Core.Path.{◌≡◌}
use Rattle.laws.specs.Lists.{total}
use Rattle.sbc_frame.specs.Arrays.{entry}
use Rattle.sbc_frame.proofs.Columns.{columns}
use Rattle.sbc_read.proofs.Arrays.{channel_value}
use Rattle.sbc_read.proofs.Values.read.Given as goal

abbrev pub invariant-loop-subband : goal.invariant-loop-subband
invariant-loop-subband l =
    let v = l.self in
    let q = v.quantization in
    (l.at ≡ v.position + total l.subband (entry q.widths))
    × (l.samples.rows ≡ columns v.blocks.count (channel_value l.bytes q.widths q.factors v.position v.block_bits v.blocks.count) l.subband)
