-- `sbc_read::read_row` meets its contract.
-- Assumes nothing.
use Prim.Native.Nat.{ℕ, ◌+◌, ◌*◌}
use mathlib.Core.Path.{ap, ◌∙◌}
use Rattle.bits.specs.Fields.{number_at}
use Rattle.sbc_read.specs.Reading.{row_at}
use Rattle.sbc_frame.proofs.Rows.{row-none, row_next}
use Rattle.sbc_read.proofs.read_row.Goals as goal

pub loop-s-init : goal.loop-s-init
unfolding row_at
loop-s-init c = row-none _

pub loop-s-preserved : goal.loop-s-preserved
unfolding row_at
loop-s-preserved c =
    let l = c.loop-s in
    row_next _ l.s l.row _ l.invariant
    (c.number_at.ensures.0 ∙ ap (λ (n : ℕ). number_at c.args.bytes.now (c.args.position + l.s * n) c.args.width) c.from.ensures)
