-- The law of the clamp, at any width.
-- Assumes nothing.
use mathlib.Core.Path.{◌≡◌, refl}
use mathlib.Core.Bool.{true, false}
use lib.IntN.{ℤ}
use lib.Signed.{lt_z}
use mir.Syntax.{Width}
use Rattle.std.specs.Prelude.{if◌then◌else◌}
use Rattle.std.specs.Int.{int_max, int_min}
use Rattle.laws.specs.Integers.{clamp_z, highest, lowest}

-- the library's clamp between the bounds of a width gives the nearest number of the width
pub clamp_is : (w : Width) (z : ℤ) → int_max (lowest w) (int_min z (highest w)) ≡ clamp_z w z
unfolding clamp_z
clamp_is w z =
    elim (lt_z (highest w) z) as (λ b. int_max (lowest w) (if b then highest w else z) ≡ (if b then highest w else if lt_z z (lowest w) then lowest w else z))
    [ true ↦ refl | false ↦ refl ]
