-- `sbc_quantizer::Dequantizer::apply` meets its contract: the steps times the multiplier plus the steps shifted are the reconstruction
-- (`value-is`), and each is small, so that it is read back from its bits.
-- Assumes nothing.
use mathlib.Core.Path.{◌≡◌, ap₂, ◌∙◌}
use Prim.Native.Nat.{ℕ, ◌^◌, ◌<◌}
use native.Mathlib.Omega.{arith}
use lib.IntN.{ℤ, pos, ◌+ℤ◌, ◌-ℤ◌, ◌*ℤ◌}
use lib.Signed.{quot_z}
use mir.Syntax.{w32}
use mir.Val.{SFits, to_z, of_z}
use mir.Facts.{to_z-of_z, to_z_pos}
use Rattle.laws.proofs.Abs.{sfits-abs}
use Rattle.sbc_quantizer.specs.declared.Dequantizer.{Dequantizer}
use Rattle.sbc_quantizer.specs.Quantizing.{reconstruct}
use Rattle.sbc_quantizer.specs.Dequantizing.{Dequantizes}
use Rattle.sbc_quantizer.proofs.Steps.{steps_by, value-small, offset-small, multiplier-small, tail-small, steps-small}
use Rattle.sbc_quantizer.proofs.Steps.{product_small, value-is, reconstruct-bound}
use Rattle.sbc_quantizer.proofs.Dequantizer.apply.Goals as goal

-- the steps and the product, as the code reads them
module _ {d : Dequantizer} {q f b : ℕ} (w : Dequantizes d q f b) where
  read_steps : to_z w32 q -ℤ to_z w32 d.offset ≡ steps_by d q
  read_steps =
      let p : q < 2 ^ 31 = omega (arith, value-small w) in
      let o : d.offset < 2 ^ 31 = omega (arith, offset-small w) in
      ap₂ (λ a b. a -ℤ b) (to_z_pos w32 p) (to_z_pos w32 o)

  steps_ok : SFits w32 (steps_by d q)
  steps_ok = sfits-abs (omega (arith, steps-small w))

  read_multiplier : to_z w32 d.multiplier ≡ pos d.multiplier
  read_multiplier = to_z_pos w32 (omega (arith, multiplier-small w))

  product_ok : SFits w32 (pos d.multiplier *ℤ steps_by d q)
  product_ok = sfits-abs (omega (arith, product_small w))

  -- the steps, the product and the sum with the steps shifted, as the code has them: each read back from its bits
  abbrev steps_read : ℤ
  steps_read = to_z w32 (of_z w32 (to_z w32 q -ℤ to_z w32 d.offset))

  abbrev product_read : ℤ
  product_read = to_z w32 (of_z w32 (to_z w32 d.multiplier *ℤ steps_read))

  steps_back : steps_read ≡ steps_by d q
  steps_back = rw read_steps (to_z-of_z steps_ok)

  product_is : to_z w32 d.multiplier *ℤ steps_read ≡ pos d.multiplier *ℤ steps_by d q
  product_is = ap₂ (λ a b. a *ℤ b) read_multiplier steps_back

  product_back : product_read ≡ pos d.multiplier *ℤ steps_by d q
  product_back = rw product_is (to_z-of_z product_ok)

  module _ {r : ℤ} (hr : SFits w32 r) (e : r ≡ quot_z steps_read (pos (2 ^ d.tail))) where
    sum_is : product_read +ℤ to_z w32 (of_z w32 r) ≡ reconstruct q f b
    sum_is = ap₂ (λ a b. a +ℤ b) product_back (to_z-of_z hr ∙ (rw steps_back at e)) ∙ value-is w

    sum_ok : SFits w32 (product_read +ℤ to_z w32 (of_z w32 r))
    sum_ok = rw sum_is (sfits-abs (omega (arith, reconstruct-bound _ _ _ w.value w.factor)))

pub overflow_cast-steps-2 : goal.overflow_cast-steps-2
overflow_cast-steps-2 c = record { sfits = omega (arith, offset-small c.requires.2) }

pub overflow_sub-steps : goal.overflow_sub-steps
overflow_sub-steps c = rw (read_steps c.requires.2) (steps_ok c.requires.2)

pub overflow_cast-result : goal.overflow_cast-result
overflow_cast-result c = record { sfits = omega (arith, multiplier-small c.requires.2) }

pub overflow_mul-result : goal.overflow_mul-result
overflow_mul-result c = rw (product_is c.requires.2) (product_ok c.requires.2)

pub cut-requires : goal.cut-requires
cut-requires c = rw (steps_back c.requires.2) (omega (arith, tail-small c.requires.2), omega (arith, steps-small c.requires.2))

pub overflow_add-result : goal.overflow_add-result
overflow_add-result c = sum_ok c.requires.2 (record { sfits = c.cut.type_inv }) c.cut.ensures

pub returns : goal.returns
returns c f b w =
    let fits : SFits w32 c.cut.result = record { sfits = c.cut.type_inv } in
    to_z-of_z (sum_ok c.requires.2 fits c.cut.ensures) ∙ sum_is w fits c.cut.ensures
