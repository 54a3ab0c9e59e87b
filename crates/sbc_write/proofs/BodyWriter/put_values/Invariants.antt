-- `sbc_write::BodyWriter::put_values` meets its contract. The loop's invariant: the values of the blocks passed are written.
-- Assumes nothing.
use Prim.Native.Nat.{◌≤◌}
use Rattle.sbc_write.specs.Writing.{Wrote, value_bits_of, widths_of, factors_of}
use Rattle.sbc_write.proofs.BodyWriter.put_values.Given as goal

abbrev pub invariant-loop-block : goal.invariant-loop-block
invariant-loop-block l =
    (l.block ≤ l.fn.blocks.count)
    × Wrote l.initial.self l.self (value_bits_of l.samples (widths_of l.quantizations) (factors_of l.quantizations) l.block)
