-- Numbers and bytes as lists of bits, high bit first.
use Rattle.std.specs.Prelude.{ℕ, zero, suc, ◌+◌, ◌*◌, ◌/◌, ◌%◌, ◌^◌, Bool, true, false, List, [], ◌∷◌, ◌++◌, eqb, length, take, drop}

-- the low bit is 1
unfoldable pub odd : ℕ → Bool
odd v = eqb (v % 2) 1

-- the n low bits of v
unfoldable pub bits_of : ℕ → ℕ → List Bool
bits_of zero v = []
bits_of (suc n) v = odd (v / 2 ^ n) ∷ bits_of n v

-- a bit as a number
unfoldable pub digit : Bool → ℕ
digit true = 1
digit false = 0

-- the number that a list of bits writes
unfoldable pub number_of : List Bool → ℕ
number_of [] = 0
number_of (b ∷ bs) = digit b * 2 ^ length bs + number_of bs

-- the bits of bytes, end to end
unfoldable pub bits_of_bytes : List ℕ → List Bool
bits_of_bytes [] = []
bits_of_bytes (byte ∷ bytes) = bits_of 8 byte ++ bits_of_bytes bytes

-- n bytes of the first 8 * n bits
unfoldable pub bytes_of : ℕ → List Bool → List ℕ
bytes_of zero bits = []
bytes_of (suc n) bits = number_of (take 8 bits) ∷ bytes_of n (drop 8 bits)
