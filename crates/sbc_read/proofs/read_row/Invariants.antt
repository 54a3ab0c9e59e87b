-- `sbc_read::read_row` meets its contract. The loop's invariant: the numbers that are read, and zeros behind them.
-- Assumes nothing.
use mathlib.Core.Path.{◌≡◌}
use Rattle.sbc_read.specs.Reading.{row_at}
use Rattle.sbc_read.proofs.read_row.Given as goal

abbrev pub invariant-loop-s : goal.invariant-loop-s
invariant-loop-s l = l.row ≡ row_at l.bytes l.position l.width l.s
