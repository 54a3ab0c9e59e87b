-- `leave_out` meets its contract: nothing is left out of the whole, and else the library says what stands where.
-- Assumes nothing.
use mathlib.Core.Path.{sym, ap, ◌∙◌}
use mathlib.Core.List.{◌++◌}
use lib.ListN.{take, drop, take-append-drop}
use Prim.Native.Nat.{◌-◌}
use Rattle.sbc_decode_frame.proofs.leave_out.Goals as goal

pub returns-else-gone-ne0 : goal.returns-else-gone-ne0
returns-else-gone-ne0 c =
    let n = c.args.samples - c.args.gone in
    let xs = c.args.output.now in
    sym (ap (λ k. take n (drop k xs) ++ drop n xs) c.if-gone-ne0.false ∙ take-append-drop n xs)
