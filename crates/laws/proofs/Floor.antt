-- Bounds of `floor_div`, the division that rounds down.
-- Assumes nothing.
use Prim.Native.Nat.{ℕ, ◌*◌, ◌≤◌, ◌<◌}
use mathlib.Core.Path.{subst}
use native.Mathlib.Nat.{mul_comm, div-le_of_le-mul, div-lt_iff_lt-mul, lt_of_le_of_lt}
use lib.IntN.{ℤ, pos, negsuc, nat_abs}
use lib.Signed.{mag_shr}
use mir.Syntax.{Width}
use mir.Val.{SFits}
use Rattle.laws.specs.Integers.{floor_div}

-- a number within b * m gives one within b
pub nat_abs-floor : (z : ℤ) (m b : ℕ) → 0 < m → nat_abs z ≤ b * m → nat_abs (floor_div z m) ≤ b
nat_abs-floor (pos a) m b p h = div-le_of_le-mul m (subst (λ (x : ℕ). a ≤ x) (mul_comm b m) h)
nat_abs-floor (negsuc a) m b p h = (div-lt_iff_lt-mul p).1 h

-- what fits a width still fits it
pub floor-fits : {w : Width} (z : ℤ) (m : ℕ) → SFits w z → SFits w (floor_div z m)
floor-fits z m h = record { sfits = lt_of_le_of_lt (mag_shr z m) h.sfits }
