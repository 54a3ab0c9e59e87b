-- What the inner parts of quantizing and reconstruction compute. From document 01, "Quantizing".
-- f is a scale factor and b the number of bits of a quantized value.
use Rattle.std.specs.Prelude.{◌≡◌, ℕ, ◌+◌, ◌-◌, ◌/◌, ◌%◌, ◌^◌, ◌≤◌, ◌<◌, min, ℤ, pos, negsuc}
use Rattle.sbc_quantizer.specs.declared.Dequantizer.{Dequantizer}
use Rattle.sbc_quantizer.specs.Quantizing.{levels}

-- z held between 0 and m
unfoldable pub held_between : ℕ → ℤ → ℕ
held_between m (pos n) = min n m
held_between m (negsuc n) = 0

-- the `Dequantizer` for f and b: 2 ^ (f + 12) / L rounded down, the shift of a number of steps that makes up for the
-- rounding, and the value that reconstructs to 0; all 0 for 0 bits
unfoldable pub dequantizer : ℕ → ℕ → Dequantizer
dequantizer f b = record { multiplier = 2 ^ (f + 12) / levels b; tail = b - (f + 12) % b; offset = 2 ^ (b - 1) - 1 }

-- d was made for f and b, and q is a value of b bits
pub record Dequantizes (d : Dequantizer) (q f b : ℕ) : Type 0 where
  pub bits : b ≤ 16
  pub factor : f ≤ 15
  pub made : d ≡ dequantizer f b
  pub value : q < 2 ^ b
