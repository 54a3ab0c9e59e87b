-- `sbc_write::BodyWriter::put_block` meets its contract. The loop's invariant: the values of the subbands passed are written.
-- Assumes nothing.
use Prim.Native.Nat.{◌≤◌}
use Rattle.laws.specs.Lists.{collect}
use Rattle.sbc_write.specs.Writing.{Wrote, value_bits_at}
use Rattle.sbc_write.proofs.BodyWriter.put_block.Given as goal

abbrev pub invariant-loop-s : goal.invariant-loop-s
invariant-loop-s l =
    let q = l.quantization in (l.s ≤ 8) × Wrote l.initial.self l.self (collect l.s (value_bits_at l.row q.widths q.factors))
