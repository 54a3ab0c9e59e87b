-- `Values::read_subband` meets its contract. The loop's invariant: the subband's samples in the blocks passed are replaced.
-- Assumes nothing.
use mathlib.Core.Path.{◌≡◌}
use Rattle.sbc_frame.specs.Arrays.{with_subband, entry}
use Rattle.sbc_read.specs.Reading.{value_of}
use Rattle.sbc_read.proofs.Values.read_subband.Given as goal

abbrev pub invariant-loop-block : goal.invariant-loop-block
invariant-loop-block l =
    let q = l.self.quantization in
    l.samples.rows
    ≡ with_subband l.block l.subband (value_of l.bytes l.at l.self.block_bits (entry q.widths l.subband) (entry q.factors l.subband))
    l.initial.samples.rows
