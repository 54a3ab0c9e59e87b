-- Samples of 16 bits and their two bytes, the low byte first.
use Rattle.std.specs.Prelude.{ℕ, ◌+◌, ◌-◌, ◌*◌, ◌/◌, ◌%◌, List, ltb, get_or, ℤ, pos, negsuc, if◌then◌else◌}
use Rattle.laws.specs.Lists.{build}

-- the sample whose two's complement is n: n below 32768, and n - 65536 from there on (negsuc k is -1 - k)
unfoldable pub signed_of : ℕ → ℤ
signed_of n = if ltb n 32768 then pos n else negsuc (65535 - n)

-- the two's complement of a sample: a negative one stands 65536 higher
unfoldable pub unsigned_of : ℤ → ℕ
unsigned_of (pos n) = n
unsigned_of (negsuc n) = 65535 - n

-- the sample of a low byte and a high byte
unfoldable pub sample_of : ℕ → ℕ → ℤ
sample_of low high = signed_of (low + 256 * high)

-- the first n samples of a list of bytes
unfoldable pub samples_in : ℕ → List ℕ → List ℤ
samples_in n bytes = build n (λ i. sample_of (get_or bytes (2 * i) 0) (get_or bytes (2 * i + 1) 0))

-- the two bytes of a sample
unfoldable pub low_byte : ℤ → ℕ
low_byte z = unsigned_of z % 256

unfoldable pub high_byte : ℤ → ℕ
high_byte z = unsigned_of z / 256 % 256
