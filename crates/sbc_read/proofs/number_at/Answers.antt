-- `sbc_read::number_at` meets its contract: the word holds the field (`window-number`), and what stands behind the field in it
-- is shifted away.
-- Assumes nothing.
use mathlib.Core.Path.{refl}
use native.Mathlib.Omega.{arith}
use Rattle.bits.proofs.Windows.{window-number, number-at-lt}
use Rattle.sbc_read.proofs.number_at.Goals as goal

pub returns : goal.returns
returns c =
    let window = window-number c.args.bytes.now c.args.position c.args.count 4 (omega arith) (omega arith) in
    rw (c.power_of_two.ensures, c.word.ensures, c.from-count.ensures, ← window)
    (refl, number-at-lt c.args.bytes.now c.args.position c.args.count)
