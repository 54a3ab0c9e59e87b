-- `sbc_synthesize::round` meets its contract: half of one more than the divided sum is the definition's output.
-- Assumes nothing.
use Prim.Native.Nat.{ℕ, ◌*◌, ◌^◌, ◌≤◌, ◌<◌}
use mathlib.Core.Path.{◌≡◌, ◌∙◌, ap}
use lib.IntN.{ℤ, pos, nat_abs, ◌+ℤ◌, ◌-ℤ◌}
use lib.Signed.{mag}
use mir.Syntax.{w16, w32, w64}
use mir.Val.{SFits, to_z, of_z}
use mir.Facts.{to_z-of_z}
use Rattle.laws.specs.Integers.{floor_div, clamp_z}
use Rattle.laws.proofs.Abs.{read_back}
use Rattle.laws.proofs.Floor.{floor-fits}
use Rattle.sbc_synthesize.specs.Summing.{output_bound}
use Rattle.sbc_synthesize.proofs.Rounding.{negated-sum, one-more-fits, bits-enough, rounded-half}
use Rattle.sbc_synthesize.proofs.round.Goals as goal

-- the sum z negated and divided by m, as the machine reads it, and then with 1 added and halved
module _ (z r : ℤ) (m : ℕ) (l : output_bound ≤ 22000000 * m) (p : 0 < m) (h : nat_abs z ≤ output_bound) (fits : mag r < 2 ^ 31)
    (e : r ≡ floor_div (pos 0 -ℤ z) m) where
  divided : to_z w32 (of_z w32 r) ≡ floor_div (pos 0 -ℤ z) m
  divided = read_back w32 fits ∙ e

  halved : to_z w32 (of_z w32 (floor_div (to_z w32 (of_z w32 (to_z w32 (of_z w32 r) +ℤ pos 1))) (2 ^ 1)))
      ≡ floor_div (floor_div (pos 0 -ℤ z) m +ℤ pos 1) 2
  halved =
      let k = one-more-fits z m l p h in
      rw divided (ap (λ (y : ℤ). to_z w32 (of_z w32 (floor_div y 2))) (to_z-of_z k) ∙ to_z-of_z (floor-fits _ 2 k))

pub returns : goal.returns
returns g c =
    let h : SFits w64 c.args.sum = c.ranges.sum in
    let k : SFits w64 (pos 0 -ℤ c.args.sum) = negated-sum c.args.sum c.requires in
    let bits = bits-enough c.first_bits.result g.met.B.Bank.bands c.first_bits.ensures in
    let e : c.shift_down.result ≡ floor_div (pos 0 -ℤ c.args.sum) (2 ^ c.first_bits.result) = simp to_z-of_z at c.shift_down.ensures in
    to_z-of_z {w = w16} (record { sfits = c.clamp_i16.type_inv }) ∙ c.clamp_i16.ensures
    ∙ ap (clamp_z w16) (read_back w64 c.from.type_inv ∙ c.from.ensures
    ∙ halved c.args.sum c.shift_down.result (2 ^ c.first_bits.result) bits.1 bits.2 c.requires c.shift_down.type_inv e)
    ∙ rounded-half c.first_bits.result c.args.sum g.met.B.Bank.bands c.first_bits.ensures
