-- A frame as bytes: written from its fields, and read at bit positions. From document 01, "Parameters" and "Checksum".
use Rattle.std.specs.Prelude.{ℕ, ◌+◌, ◌-◌, ◌*◌, Bool, false, List, [], ◌∷◌, ◌++◌, length, replicate}
use Rattle.laws.specs.Lists.{collect, build, total}
use Rattle.laws.specs.Bits.{odd, bits_of, bytes_of}
use Rattle.crc8.specs.Checksum.{checksum}
use Rattle.bits.specs.Fields.{number_at}
use Rattle.sbc_parameters.specs.Parameters.{channels}
use Rattle.sbc_parameters.specs.Sizes.{join_count, side_bits, frame_length}
use Rattle.sbc_parameters.specs.Header.{header}
use Rattle.sbc_parameters.specs.declared.SbcParameters.{SbcParameters}
use Rattle.sbc_frame.specs.Fields.{Fields, join_at, factor_at, value_at, width_at, channel_width}

-- ---- writing: after byte 3 the join flags, the 4-bit scale factors channel by channel, the quantized values by block, channel, subband

-- one join flag a subband, in joint stereo only
unfoldable pub flag_bits : SbcParameters → Fields → List Bool
flag_bits p f = collect (join_count p) (λ s. join_at f s ∷ [])

-- the scale factors of a channel, 4 bits each
unfoldable pub channel_factor_bits : SbcParameters → Fields → ℕ → List Bool
channel_factor_bits p f c = collect p.subbands (λ s. bits_of 4 (factor_at f c s))

-- the scale factors, channel by channel
unfoldable pub factor_bits : SbcParameters → Fields → List Bool
factor_bits p f = collect (channels p) (channel_factor_bits p f)

-- the quantized values of a channel in block b, each in the bits that the allocation gives it
unfoldable pub channel_value_bits : SbcParameters → Fields → ℕ → ℕ → List Bool
channel_value_bits p f b c = collect p.subbands (λ s. bits_of (width_at p f.factors c s) (value_at f b c s))

-- the quantized values of block b, channel by channel
unfoldable pub block_value_bits : SbcParameters → Fields → ℕ → List Bool
block_value_bits p f b = collect (channels p) (channel_value_bits p f b)

-- the quantized values, block by block
unfoldable pub value_bits : SbcParameters → Fields → List Bool
value_bits p f = collect p.blocks (block_value_bits p f)

-- all bits after byte 3 but the spare ones
unfoldable pub body_bits : SbcParameters → Fields → List Bool
body_bits p f = flag_bits p f ++ (factor_bits p f ++ value_bits p f)

-- bits as so many bytes; the spare bits are 0
unfoldable pub filled : ℕ → List Bool → List ℕ
filled size bits = bytes_of size (bits ++ replicate (8 * size - length bits) false)

-- the bytes behind byte 3
unfoldable pub body : SbcParameters → Fields → List ℕ
body p f = filled (frame_length p - 4) (body_bits p f)

-- a frame with these bytes behind byte 3: header, checksum, body; the checksum does not look at byte 3
abbrev pub framed : SbcParameters → List ℕ → List ℕ
framed p bytes = header p ++ (checksum (header p ++ (0 ∷ bytes)) (side_bits p) ∷ bytes)

-- the frame of these fields
unfoldable pub pack : SbcParameters → Fields → List ℕ
pack p f = framed p (body p f)

-- ---- reading: the positions count bits from the frame's first, and byte 4 begins at bit 32

-- behind the join flags, all channels before, and all subbands before in the channel
unfoldable pub factor_position : SbcParameters → ℕ → ℕ → ℕ
factor_position p c s = 32 + (join_count p + (c * (4 * p.subbands) + s * 4))

-- behind all blocks before, all channels before in the block, and all subbands before in the channel
unfoldable pub value_position : SbcParameters → List (List ℕ) → ℕ → ℕ → ℕ → ℕ
value_position p factors b c s =
    32
    + (side_bits p
    + (b * total (channels p) (channel_width p factors) + (total c (channel_width p factors) + total s (width_at p factors c))))

-- the join flags, from byte 4 on
unfoldable pub read_join : SbcParameters → List ℕ → List Bool
read_join p frame = build (join_count p) (λ s. odd (number_at frame (32 + s) 1))

-- the scale factors
unfoldable pub read_factors : SbcParameters → List ℕ → List (List ℕ)
read_factors p frame = build (channels p) (λ c. build p.subbands (λ s. number_at frame (factor_position p c s) 4))

-- the quantized values; the scale factors say how many bits each has
unfoldable pub read_values : SbcParameters → List ℕ → List (List ℕ) → List (List (List ℕ))
read_values p frame factors =
    build p.blocks
    (λ b. build (channels p) (λ c. build p.subbands (λ s. number_at frame (value_position p factors b c s) (width_at p factors c s))))

-- all fields of a frame
unfoldable pub unpack : SbcParameters → List ℕ → Fields
unpack p frame =
    let factors = read_factors p frame in
    record { join = read_join p frame; factors = factors; values = read_values p frame factors }
