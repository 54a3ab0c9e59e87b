-- CRC-8 with the polynomial hexadecimal 1D, high bit first, and the checksum of a frame. From document 01, "Checksum".
use Rattle.std.specs.Prelude.{ℕ, ◌*◌, ◌%◌, Bool, List, [], ◌∷◌, ◌++◌, leb, take, drop, if◌then◌else◌}
use Rattle.std.specs.Bool.{beq}
use Rattle.std.specs.Int.Bits.{bit_xor}
use Rattle.laws.specs.Bits.{bits_of_bytes}

-- one bit: the register moves up by one, and the polynomial is added where the bit that leaves differs from the bit that comes
unfoldable pub crc_step : ℕ → Bool → ℕ
crc_step crc bit = if beq (leb 128 crc) bit then crc % 128 * 2 else bit_xor 0x1D (crc % 128 * 2)

-- the register after a list of bits
unfoldable pub crc_bits : ℕ → List Bool → ℕ
crc_bits crc [] = crc
crc_bits crc (bit ∷ bits) = crc_bits (crc_step crc bit) bits

-- bytes 1 and 2 as received, then the join flags and scale factors, which begin at byte 4, to the bit
unfoldable pub covered : List ℕ → ℕ → List Bool
covered frame side_bits = bits_of_bytes (take 2 (drop 1 frame)) ++ take side_bits (bits_of_bytes (drop 4 frame))

-- what byte 3 of a frame holds
unfoldable pub checksum : List ℕ → ℕ → ℕ
checksum frame side_bits = crc_bits 0x0F (covered frame side_bits)
