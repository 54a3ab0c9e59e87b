-- `sbc_write::BodyWriter::put_row` meets its contract.
-- Assumes nothing.
use Prim.Native.Nat.{ℕ, ◌+◌, ◌≤◌}
use native.Mathlib.Nat.{add-mul, mul-le-mul_right}
use native.Mathlib.Omega.{arith}
use lib.ListN.{length}
use Rattle.laws.specs.Lists.{collect}
use Rattle.laws.specs.Bits.{bits_of}
use Rattle.sbc_frame.specs.Arrays.{entry}
use Rattle.sbc_write.specs.Writing.{row_bits}
use Rattle.sbc_write.proofs.Fields.{wrote_none, one_more, counted-row}
use Rattle.sbc_write.proofs.BodyWriter.put_row.Goals as goal

pub loop-entry-init : goal.loop-entry-init
unfolding row_bits collect
loop-entry-init c = wrote_none c.args.self.now

pub put-requires-clause-room : goal.put-requires-clause-room
put-requires-clause-room c =
    let v = c.loop-entry.invariant in
    let width : ℕ = c.args.width in
    let k : ℕ = c.loop-entry.entry-index in
    let there : k + 1 ≤ length c.args.row.now = omega arith in
    omega (arith, counted-row _ _ _ _ _ v, v.same_length, add-mul k 1 width, mul-le-mul_right width there)

pub loop-entry-preserved : goal.loop-entry-preserved
unfolding row_bits
loop-entry-preserved c =
    one_more c.args.self.now c.loop-entry.self c.put.new.self c.loop-entry.entry-index (λ s. bits_of c.args.width (entry c.args.row.now s))
    c.loop-entry.invariant (rw c.from.ensures at c.put.ensures)
