-- How the code of the decoder reads a frame, for the contracts of its inner functions alone: flags and scale factors in rows of
-- eight, and the subband samples of a channel in 16 rows of eight, a row for each block. No call of a user's cites this.
-- From document 01, "Parameters", "Quantizing" and "Joint stereo".
use Rattle.std.specs.Prelude.{ℕ, ◌+◌, ◌*◌, List, [], eqb, ltb, get_or, ℤ, ◌+ℤ◌, ◌-ℤ◌, if◌then◌else◌}
use Rattle.laws.specs.Lists.{build, total}
use Rattle.bits.specs.Fields.{number_at}
use Rattle.sbc_parameters.specs.Parameters.{channels}
use Rattle.sbc_parameters.specs.Sizes.{join_count, side_bits, block_bits}
use Rattle.sbc_parameters.specs.declared.SbcParameters.{SbcParameters}
use Rattle.sbc_quantizer.specs.Quantizing.{reconstruct}
use Rattle.sbc_allocation.specs.Allocate.{allocation_table}
use Rattle.sbc_frame.specs.Fields.{Fields}
use Rattle.sbc_frame.specs.Layout.{factor_position}
use Rattle.sbc_frame.specs.Encoding.{sample_at}
use Rattle.sbc_frame.specs.Decoding.{channel_blocks}
use Rattle.sbc_frame.specs.Arrays.{below, samples_array, rows_of, entry}
use Rattle.sbc_frame.specs.declared.blocks.Blocks.{Blocks}

-- `count` numbers of `width` bits each, end to end from a position on, in a row of eight
unfoldable pub row_at : List ℕ → ℕ → ℕ → ℕ → List ℕ
row_at bytes position width count = build 8 (below count (λ s. number_at bytes (position + s * width) width))

-- the join flags, from the bytes of a frame
abbrev pub flag_row : SbcParameters → List ℕ → List ℕ
flag_row p bytes = row_at bytes 32 1 (join_count p)

-- the scale factors of channel c; none where there is no such channel
abbrev pub factor_row : SbcParameters → List ℕ → ℕ → List ℕ
factor_row p bytes c = row_at bytes (factor_position p c 0) 4 (if ltb c (channels p) then p.subbands else 0)

-- the bits of a value by subband, for channel c, from the rows of the scale factors
abbrev pub width_row : SbcParameters → List (List ℕ) → ℕ → List ℕ
width_row p factors c = get_or (allocation_table p factors) c []

-- where the values of channel c begin: behind the side information, and in a block behind the values of the channels before it
abbrev pub start : SbcParameters → List (List ℕ) → ℕ → ℕ
start p factors c = 32 + side_bits p + total c (λ d. total 8 (entry (width_row p factors d)))

-- the sample of a subband in block b, where the subband's first value stands at a position and a block has so many bits
unfoldable pub value_of : List ℕ → ℕ → ℕ → ℕ → ℕ → ℕ → ℤ
value_of bytes position block-bits width factor b = reconstruct (number_at bytes (position + b * block-bits) width) factor width

-- the samples of a channel by block and subband, where the channel's first value stands at a position
unfoldable pub channel_values : List ℕ → List ℕ → List ℕ → ℕ → ℕ → ℕ → List (List ℤ)
channel_values bytes widths factors position block-bits blocks =
    build blocks (λ b. build 8 (λ s. value_of bytes (position + total s (entry widths)) block-bits (entry widths s) (entry factors s) b))

-- the array of what is read of channel c, before sum and difference
unfoldable pub read_samples : SbcParameters → List ℕ → List (List ℕ) → ℕ → List (List ℤ)
read_samples p bytes factors c =
    samples_array p.blocks
    (channel_values bytes (width_row p factors c) (get_or factors c []) (start p factors c) (block_bits p) p.blocks)

-- sum (channel 0) and difference (channel 1) of the channels' samples
abbrev pub sum_or_difference : ℕ → ℤ → ℤ → ℤ
sum_or_difference c left right = if eqb c 0 then left +ℤ right else left -ℤ right

-- that of block b and subband s
abbrev pub restored_at : List Blocks → ℕ → ℕ → ℕ → ℤ
restored_at channels c b s = sum_or_difference c (sample_at (rows_of channels 0) b s) (sample_at (rows_of channels 1) b s)

-- the array of the samples of a frame's channel: zeros behind a block's S samples, behind the blocks, and where there is no such channel
unfoldable pub channel_array : SbcParameters → Fields → ℕ → List (List ℤ)
channel_array p f c = samples_array p.blocks (if ltb c (channels p) then channel_blocks p f c else [])
