-- `laws::multiply_add` meets its contract: the product of two i32 fits an i64.
-- A signed local holds bits, and what is read back from them is the number, since it fits (`to_z-of_z`).
-- Assumes nothing.
use lib.IntN.{◌*ℤ◌}
use mir.Syntax.{w64}
use mir.Val.{SFits}
use mir.Facts.{to_z-of_z, sfits_widen}
use Rattle.laws.proofs.Abs.{product-fits}
use Rattle.laws.proofs.multiply_add.Goals as goal

pub returns : goal.returns
returns c =
    let wide_a : SFits w64 c.args.a = sfits_widen tt c.ranges.a in
    let wide_b : SFits w64 c.args.b = sfits_widen tt c.ranges.b in
    let product : SFits w64 (c.args.a *ℤ c.args.b) = product-fits c.ranges.a c.ranges.b in
    simp (c.from.ensures, c.from-2.ensures, to_z-of_z c.ranges.sum, to_z-of_z c.ranges.a, to_z-of_z c.ranges.b, to_z-of_z wide_a, to_z-of_z wide_b, to_z-of_z product)
    (to_z-of_z c.requires)
