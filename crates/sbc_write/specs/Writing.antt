-- What the code has written of a frame's body, for the contracts of its inner functions alone: its bits, one field after the other. No call
-- of a user's cites this.
-- From document 01, "Parameters" and "Quantizing".
use Rattle.std.specs.Prelude.{ℕ, ◌+◌, ◌*◌, ◌≤◌, ◌≡◌, Bool, List, [], ◌++◌, length, get_or, take, drop, map, ℤ, pos}
use denote.Ref.{at_last}
use Rattle.laws.specs.Lists.{collect, total}
use Rattle.laws.specs.Bits.{bits_of, bits_of_bytes}
use Rattle.sbc_quantizer.specs.Quantizing.{quantize}
use Rattle.sbc_frame.specs.Arrays.{entry, rows_of}
use Rattle.sbc_frame.specs.declared.blocks.Blocks.{Blocks}
use Rattle.sbc_frame.specs.declared.Quantization.{Quantization}
use Rattle.sbc_write.specs.declared.BodyWriter.{BodyWriter}

-- ---- a writer
-- what is written into bytes: the first whole bytes, and a number of bits behind them
unfoldable pub bits_behind : List ℕ → ℕ → ℕ → ℕ → List Bool
bits_behind bytes at held bits = bits_of_bytes (take at bytes) ++ bits_of held bits

-- what a writer has written, from the first bit on: whole bytes, and the bits that it still holds
abbrev pub bits_in : BodyWriter → List Bool
bits_in w = bits_behind w.bytes.now w.writer.at w.writer.held w.writer.bits

-- how many bits that are
abbrev pub count_in : BodyWriter → ℕ
count_in w = 8 * w.writer.at + w.writer.held

-- its bytes have room for n bits more
abbrev pub Room : BodyWriter → ℕ → Type 0
Room w n = count_in w + n ≤ 8 * length w.bytes.now

-- what a call writes: some bits behind those before, into the same bytes in memory, and no byte behind the last that is written is touched.
-- `at_last x l` is the borrow x, with the bytes l in it
pub record Wrote (before after : BodyWriter) (bits : List Bool) : Type 0 where
  pub same_bytes : after.bytes ≡ at_last before.bytes after.bytes.now
  pub same_length : length after.bytes.now ≡ length before.bytes.now
  pub written : bits_in after ≡ bits_in before ++ bits
  pub counted : count_in after ≡ count_in before + length bits
  pub behind : drop after.writer.at after.bytes.now ≡ drop after.writer.at before.bytes.now

-- ---- the fields
-- `count` numbers of a row, of so many bits each
unfoldable pub row_bits : List ℕ → ℕ → ℕ → List Bool
row_bits row width count = collect count (λ s. bits_of width (entry row s))

-- the quantized value of a subband, from a block's row of samples; a subband of 0 bits has none
abbrev pub value_bits_at : List ℤ → List ℕ → List ℕ → ℕ → List Bool
value_bits_at row widths factors s = bits_of (entry widths s) (quantize (get_or row s (pos 0)) (entry factors s) (entry widths s))

-- those of a channel in a block
unfoldable pub block_bits_of : List ℤ → List ℕ → List ℕ → List Bool
block_bits_of row widths factors = collect 8 (value_bits_at row widths factors)

-- both channels' in n blocks
unfoldable pub value_bits_of : List Blocks → List (List ℕ) → List (List ℕ) → ℕ → List Bool
value_bits_of samples widths factors n =
    collect n (λ b. collect 2 (λ c. block_bits_of (get_or (rows_of samples c) b []) (get_or widths c []) (get_or factors c [])))

-- how many bits both channels' values have in a block
abbrev pub values_width : List (List ℕ) → ℕ
values_width widths = total 8 (entry (get_or widths 0 [])) + total 8 (entry (get_or widths 1 []))

-- the widths and the factors of the channels, by channel
abbrev pub widths_of : List Quantization → List (List ℕ)
widths_of quantizations = map (λ q. q.widths) quantizations

abbrev pub factors_of : List Quantization → List (List ℕ)
factors_of quantizations = map (λ q. q.factors) quantizations
