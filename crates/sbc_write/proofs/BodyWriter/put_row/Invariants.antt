-- `sbc_write::BodyWriter::put_row` meets its contract. The loop's invariant: the numbers passed are written.
-- Assumes nothing.
use Rattle.sbc_write.specs.Writing.{Wrote, row_bits}
use Rattle.sbc_write.proofs.BodyWriter.put_row.Given as goal

abbrev pub invariant-loop-entry : goal.invariant-loop-entry
invariant-loop-entry l = Wrote l.initial.self l.self (row_bits l.row l.width l.entry-index)
