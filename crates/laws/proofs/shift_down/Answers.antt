-- `laws::shift_down` meets its contract: the quotient fits an i64 too, so that it is read back.
-- Assumes nothing.
use Prim.Native.Nat.{◌^◌}
use mir.Syntax.{w32, w64}
use mir.Val.{SFits}
use mir.Facts.{to_z-of_z}
use Rattle.laws.specs.Integers.{floor_div}
use Rattle.laws.proofs.Floor.{floor-fits}
use Rattle.laws.proofs.shift_down.Goals as goal

pub overflow_cast-result-2 : goal.overflow_cast-result-2
overflow_cast-result-2 c =
    let h = c.ranges.x in
    let k : SFits w64 (floor_div c.args.x (2 ^ c.args.bits)) = floor-fits _ _ h in
    simp to_z-of_z c.requires.1

pub returns : goal.returns
returns c =
    let h = c.ranges.x in
    let k : SFits w64 (floor_div c.args.x (2 ^ c.args.bits)) = floor-fits _ _ h in
    let r : SFits w32 (floor_div c.args.x (2 ^ c.args.bits)) = c.requires.1 in
    simp to_z-of_z
