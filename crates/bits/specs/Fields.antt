-- Bits read and written at a bit position of bytes, high bit first, 32 at a time at most. From document 01, "Bits".
use Rattle.std.specs.Prelude.{ℕ, ◌+◌, ◌-◌, ◌*◌, ◌^◌, min, Bool, ◌&&◌, List, ◌++◌, Result, Ok, Err, eqb, leb, length, take, drop, if◌then◌else◌}
use Rattle.laws.specs.Answers.{Told, gives, refuses}
use Rattle.laws.specs.Bits.{bits_of, number_of, bits_of_bytes, bytes_of}
use Rattle.codec.specs.Errors.{error_number}
use Rattle.codec.specs.declared.Error.{Error}
use Rattle.bits.specs.declared.Read.{Read}

-- the position behind the last bit; a position is a usize, so bits that 2 ^ 61 bytes or more have beyond those are out of reach
unfoldable pub bit_end : List ℕ → ℕ
bit_end bytes = min (8 * length bytes) (2 ^ 64 - 1)

-- 32 bits at most, and none past the end
unfoldable pub inside : List ℕ → ℕ → ℕ → Bool
inside bytes position count = leb count 32 && leb (position + count) (bit_end bytes)

-- ---- reading

-- the number that `count` bits from a position on write
unfoldable pub number_at : List ℕ → ℕ → ℕ → ℕ
number_at bytes position count = number_of (take count (drop position (bits_of_bytes bytes)))

-- what a read gives back, by document 01's numbers, and the position after it
pub record Found : Type 0 where
  pub answer : Told ℕ
  pub position : ℕ

-- a refusal leaves the position where it was
unfoldable pub told_read : ℕ → Result Read Error → Found
told_read position (Ok r) = record { answer = gives r.value; position = r.position }
told_read position (Err e) = record { answer = refuses (error_number e); position = position }

-- a read of 0 bits gives 0; one past the end gives Incomplete and moves nothing
unfoldable pub read_at : List ℕ → ℕ → ℕ → Found
read_at bytes position count =
    if eqb count 0 then record { answer = gives 0; position = position } else
    if inside bytes position count then record { answer = gives (number_at bytes position count); position = position + count } else
    record { answer = refuses 1; position = position }

-- ---- writing

-- the bytes with the low `count` bits of a value in place of those from a position on
unfoldable pub overwritten : List ℕ → ℕ → ℕ → ℕ → List ℕ
overwritten bytes position value count =
    let bits = bits_of_bytes bytes in
    bytes_of (length bytes) (take position bits ++ (bits_of count value ++ drop (position + count) bits))

-- what a write gives back, the position after it, and the bytes after it
pub record Wrote : Type 0 where
  pub answer : Told Unit
  pub position : ℕ
  pub bytes : List ℕ

-- a refusal leaves the position where it was
unfoldable pub told_written : ℕ → Result ℕ Error → List ℕ → Wrote
told_written position (Ok after) bytes = record { answer = gives tt; position = after; bytes = bytes }
told_written position (Err e) bytes = record { answer = refuses (error_number e); position = position; bytes = bytes }

-- a write of 0 bits changes nothing; one past the end gives BufferTooSmall, moves nothing and writes nothing
unfoldable pub write_at : List ℕ → ℕ → ℕ → ℕ → Wrote
write_at bytes position value count =
    if eqb count 0 then record { answer = gives tt; position = position; bytes = bytes } else
    if inside bytes position count then
    record { answer = gives tt; position = position + count; bytes = overwritten bytes position value count }
    else
    record { answer = refuses 5; position = position; bytes = bytes }
