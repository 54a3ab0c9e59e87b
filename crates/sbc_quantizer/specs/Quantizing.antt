-- Document 01, "Quantizing". f is a scale factor and b the number of bits of a quantized value.
use Rattle.std.specs.Prelude.{Bool, ℕ, zero, suc, ◌+◌, ◌-◌, ◌^◌, ltb, eqb, ℤ, pos, neg_ℤ, nat_abs, ◌+ℤ◌, ◌-ℤ◌, ◌*ℤ◌, if◌then◌else◌}
use Rattle.std.specs.Int.Signed.{le_z, lt_z, quot_z}
use Rattle.laws.specs.Integers.{floor_div}

-- the least of f, f + 1, .., f + n - 1 that passes the test, else f + n
unfoldable pub first_from : (ℕ → Bool) → ℕ → ℕ → ℕ
first_from test f zero = f
first_from test f (suc n) = if test f then f else first_from test (suc f) n

-- "the least of 0 to 14 with maximum < 2^(f+13), else 15", where the maximum is the subband's greatest absolute value
unfoldable pub scale_factor : ℕ → ℕ
scale_factor maximum = first_from (λ f. ltb maximum (2 ^ (f + 13))) 0 15

-- "L = 2^b − 1"
abbrev pub levels : ℕ → ℕ
levels b = 2 ^ b - 1

-- "L if sample ≥ 2^(f+13); 0 if sample < −2^(f+13); else floor((sample + 2^(f+13)) × L ÷ 2^(f+14))", which is not negative there
unfoldable pub quantize : ℤ → ℕ → ℕ → ℕ
quantize sample f b =
    if le_z (pos (2 ^ (f + 13))) sample then levels b
    else if lt_z sample (neg_ℤ (pos (2 ^ (f + 13)))) then 0
    else nat_abs (floor_div ((sample +ℤ pos (2 ^ (f + 13))) *ℤ pos (levels b)) (2 ^ (f + 14)))

-- "2^(f+12) × (q − 2^(b−1) + 1) ÷ L, cut toward zero; 0 bits give 0"
unfoldable pub reconstruct : ℕ → ℕ → ℕ → ℤ
reconstruct q f b =
    if eqb b 0 then pos 0
    else quot_z (pos (2 ^ (f + 12)) *ℤ (pos q -ℤ pos (2 ^ (b - 1)) +ℤ pos 1)) (pos (levels b))
