-- Integers: the division that rounds down, the range of a signed width, and bounds of a list's entries.
use Rattle.std.specs.Prelude.{ℕ, ◌-◌, ◌^◌, ◌≤◌, List, get_or, ℤ, pos, negsuc, nat_abs, if◌then◌else◌}
use Rattle.std.specs.Int.Signed.{lt_z, shr_z}
use Rattle.std.specs.Int.{Width}
use mir.Val.{hbits}

-- z ÷ m rounded down, with the divisor written out (2 ^ k), which is what the machine's `>>` by k gives
abbrev pub floor_div : ℤ → ℕ → ℤ
floor_div z m = shr_z z m

-- the greatest number of a signed width
abbrev pub highest : Width → ℤ
highest w = pos (2 ^ hbits w - 1)

-- the least number of a signed width
abbrev pub lowest : Width → ℤ
lowest w = negsuc (2 ^ hbits w - 1)

-- the number of a signed width that is nearest to z
unfoldable pub clamp_z : Width → ℤ → ℤ
clamp_z w z = if lt_z (highest w) z then highest w else (if lt_z z (lowest w) then lowest w else z)

-- each entry of a list of integers has an absolute value of at most b
abbrev pub Within : ℕ → List ℤ → Type 0
Within b xs = (i : ℕ) → nat_abs (get_or xs i (pos 0)) ≤ b
