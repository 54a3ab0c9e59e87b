-- `sbc_allocation::raised_need` meets its contract: a need is at least -5.
-- Assumes nothing.
use mathlib.Core.Path.{◌≡◌, ◌∙◌, sym, ap}
use native.Mathlib.Omega.{arith}
use Rattle.sbc_parameters.specs.declared.SbcParameters.{SbcParameters}
use Prim.Native.Nat.{ℕ, ◌≤◌}
use lib.IntN.{ℤ, pos, ◌+ℤ◌, ◌-ℤ◌, +ℤ-neg_ℤ_cancel}
use mir.Syntax.{w32}
use mir.Val.{SFits, to_z, of_z}
use Rattle.sbc_need.specs.Need.{need}
use Rattle.sbc_share.specs.Raised.{lowered}
use mir.Facts.{to_z-of_z}
use Rattle.sbc_need.proofs.Bounds.{Raises, need-raises}
use Rattle.sbc_allocation.proofs.raised_need.Goals as goal

-- the need that the code has, read back from its bits, and 32
module _ (p : SbcParameters) (f subband : ℕ) (small : f ≤ 255) {z : ℤ} (fits : SFits w32 z) (is : z ≡ need p f subband) where
  abbrev raises : Raises (need p f subband)
  raises = need-raises p f subband small

  total : to_z w32 (of_z w32 z) +ℤ pos 32 ≡ pos raises.0
  total = ap (λ z. z +ℤ pos 32) (to_z-of_z fits ∙ is) ∙ raises.1

  sum_fits : SFits w32 (to_z w32 (of_z w32 z) +ℤ pos 32)
  sum_fits = rw total (record { sfits = omega (arith, raises.2) })

  kept : to_z w32 (of_z w32 (to_z w32 (of_z w32 z) +ℤ pos 32)) ≡ pos raises.0
  kept = to_z-of_z sum_fits ∙ total

  low : lowered raises.0 ≡ need p f subband
  unfolding lowered
  low = ap (λ z. z -ℤ pos 32) (sym raises.1) ∙ +ℤ-neg_ℤ_cancel (need p f subband) (pos 32)

pub overflow_add-result : goal.overflow_add-result
overflow_add-result c =
    sum_fits c.args.needs.parameters c.args.scale_factor c.args.subband (omega arith) (record { sfits = c.need.type_inv }) c.need.ensures

pub overflow_cast-result : goal.overflow_cast-result
overflow_cast-result c =
    let p = c.args.needs.parameters in
    let small : c.args.scale_factor ≤ 255 = omega arith in
    let k = kept p c.args.scale_factor c.args.subband small (record { sfits = c.need.type_inv }) c.need.ensures in
    rw k (tt, record { fits = omega (arith, (need-raises p c.args.scale_factor c.args.subband small).2) })

pub returns : goal.returns
returns c =
    let p = c.args.needs.parameters in
    let small : c.args.scale_factor ≤ 255 = omega arith in
    let r = need-raises p c.args.scale_factor c.args.subband small in
    let fits : SFits w32 c.need.result = record { sfits = c.need.type_inv } in
    let k = kept p c.args.scale_factor c.args.subband small fits c.need.ensures in
    rw k (low p c.args.scale_factor c.args.subband small fits c.need.ensures, r.2, r.3)
