-- The figures that document 01 marks M ("Checked figures"), as one table, proved of the definitions by one statement. A row has what the
-- definitions give and what the document states. A set of parameters shows as its fields, a refusal as its number.
use Rattle.std.specs.Prelude.{ℕ, ◌^◌, ◌≡◌, refl, Some, List, [], ◌∷◌, ◌++◌, map, get_or, take, ℤ, pos, neg_ℤ}
use Rattle.laws.specs.Answers.{Told, gives, refuses}
use Rattle.laws.specs.Lists.{collect, build, all_of, index_of, listed}
use Rattle.laws.specs.Bits.{odd, bits_of}
use Rattle.crc8.specs.Checksum.{crc_step, crc_bits}
use Rattle.sbc_modes.specs.Modes.{channel_modes, allocations, mode_number, allocation_number}
use Rattle.sbc_parameters.specs.Parameters.{high_quality, msbc, sample_rates, block_counts, subband_counts, maximum_bitpool}
use Rattle.sbc_parameters.specs.Parameters.{is_msbc, msbc_tests, field_tests, accepted, validate}
use Rattle.sbc_parameters.specs.Sizes.{join_count, block_bits, audio_bits, frame_length, samples_per_channel, frame_samples}
use Rattle.sbc_parameters.specs.Header.{from_settings, parse}
use Rattle.sbc_need.specs.Need.{need}
use Rattle.sbc_share.specs.Share.{sum, above, heights, level_part, level_bits, descend, greatest_need, least_need, level_of}
use Rattle.sbc_share.specs.Share.{base_bits, round_gain, round_bits, last_bit, share_at, share}
use Rattle.sbc_allocation.specs.Allocate.{channel_needs, allocate_by, allocate}
use Rattle.sbc_quantizer.specs.Quantizing.{first_from, scale_factor, quantize, reconstruct}
use Rattle.sbc_decoder.specs.Decode.{new_decoder, with_parameters}
use Rattle.sbc_seek.specs.Seek.{seek_frame, seek_offset, seek_skip, request_in, seek_request}
use Rattle.sbc_seek.specs.declared.SeekRequest.{SeekRequest}
use Rattle.sbc_decoder.specs.Seek.{seek_answered, seek}
use Rattle.sbc_parameters.specs.declared.SbcParameters.{SbcParameters}
use Rattle.sbc_modes.specs.declared.SbcChannelMode.TheVariants.{Mono, DualChannel}
use Rattle.sbc_modes.specs.declared.SbcAllocation.TheVariants.{Loudness, Snr}

pub record Figure : Type 0 where
  pub given : List ℤ
  pub stated : List ℤ

-- a row of natural numbers
abbrev pub numbers : List ℕ → List ℕ → Figure
numbers given stated = record { given = map pos given; stated = map pos stated }

unfoldable pub shown_set : Told SbcParameters → List ℕ
shown_set (gives p) =
    p.sample_rate ∷ mode_number p.channel_mode ∷ allocation_number p.allocation ∷ p.blocks ∷ p.subbands ∷ p.bitpool ∷ []
shown_set (refuses n) = n ∷ []

unfoldable pub shown_valid : Told Unit → List ℕ
shown_valid (gives v) = []
shown_valid (refuses n) = n ∷ []

-- ---- the sets that the figures name beside HIGH_QUALITY and mSBC

-- mono, 4 blocks, 4 subbands, bitpool 2
unfoldable pub least_set : SbcParameters
least_set = record { sample_rate = 16000; channel_mode = Mono; allocation = Loudness; blocks = 4; subbands = 4; bitpool = 2 }

-- dual channel, 16 blocks, 8 subbands
unfoldable pub dual_set : ℕ → SbcParameters
dual_set bitpool =
    record { sample_rate = 48000; channel_mode = DualChannel; allocation = Loudness; blocks = 16; subbands = 8; bitpool = bitpool }

-- ---- the rows, in the document's order

unfoldable pub sizes : List Figure
sizes =
    numbers (frame_length high_quality ∷ frame_samples high_quality ∷ []) (119 ∷ 256 ∷ [])
    ∷ numbers (frame_length msbc ∷ frame_samples msbc ∷ []) (57 ∷ 120 ∷ [])
    ∷ numbers (frame_length least_set ∷ []) (7 ∷ [])
    ∷ numbers (frame_length (dual_set 128) ∷ []) (524 ∷ [])
    ∷ numbers (shown_valid (validate (dual_set 128))) []
    ∷ numbers (shown_valid (validate (dual_set 129))) (3 ∷ [])
    ∷ []

unfoldable pub headers : List Figure
headers =
    numbers (shown_set (parse (0x9C ∷ 0xBD ∷ 0x35 ∷ []))) (shown_set (gives high_quality))
    ∷ numbers (shown_set (parse (0xAD ∷ []))) (1 ∷ [])
    ∷ numbers (shown_set (parse (0x9C ∷ 0xF5 ∷ 129 ∷ []))) (2 ∷ [])
    ∷ []

-- from 00: 8 bits of 01, 8 bits of 80, 4 bits of 1F
unfoldable pub checksums : List Figure
checksums =
    numbers (crc_bits 0 (bits_of 8 0x01) ∷ []) (0x1D ∷ [])
    ∷ numbers (crc_bits 0 (bits_of 8 0x80) ∷ []) (0x26 ∷ [])
    ∷ numbers (crc_bits 0 (take 4 (bits_of 8 0x1F)) ∷ []) (0x1D ∷ [])
    ∷ []

-- mono, 4 subbands, SNR, bitpool 3: the bits of factors 0 0 0 0 and 0 3 3 0
unfoldable pub share_set : ℕ → SbcParameters
share_set bitpool = record { sample_rate = 16000; channel_mode = Mono; allocation = Snr; blocks = 4; subbands = 4; bitpool = bitpool }

unfoldable pub shares : List Figure
shares =
    numbers (get_or (allocate (share_set 3) ((0 ∷ 0 ∷ 0 ∷ 0 ∷ []) ∷ [])) 0 []) (3 ∷ 0 ∷ 0 ∷ 0 ∷ [])
    ∷ numbers (get_or (allocate (share_set 3) ((0 ∷ 3 ∷ 3 ∷ 0 ∷ []) ∷ [])) 0 []) (1 ∷ 2 ∷ 0 ∷ 0 ∷ [])
    ∷ []

-- f = 0, b = 2: the reconstructions of 0 to 3
unfoldable pub reconstructions : List Figure
reconstructions =
    record {
      given = reconstruct 0 0 2 ∷ reconstruct 1 0 2 ∷ reconstruct 2 0 2 ∷ reconstruct 3 0 2 ∷ [];
      stated = neg_ℤ (pos 1365) ∷ pos 0 ∷ pos 1365 ∷ pos 2730 ∷ [];
    }
    ∷ []

-- f = 0, b = 2: samples -8192, 0, 8191, 8192
unfoldable pub quantizings : List Figure
quantizings =
    numbers (quantize (neg_ℤ (pos 8192)) 0 2 ∷ quantize (pos 0) 0 2 ∷ quantize (pos 8191) 0 2 ∷ quantize (pos 8192) 0 2 ∷ [])
    (0 ∷ 1 ∷ 2 ∷ 3 ∷ [])
    ∷ []

-- the factors of the maxima 8191, 8192, 2^27
unfoldable pub factors : List Figure
factors = numbers (scale_factor 8191 ∷ scale_factor 8192 ∷ scale_factor (2 ^ 27) ∷ []) (0 ∷ 1 ∷ 15 ∷ []) ∷ []

-- mSBC, position 1000: byte offset and skip, of a decoder whose last accepted frame was one of mSBC
unfoldable pub shown_seek : Told SeekRequest → List ℕ
shown_seek (gives request) = request.byte_offset ∷ request.skip_frames ∷ []
shown_seek (refuses n) = n ∷ []

unfoldable pub seeks : List Figure
seeks = numbers (shown_seek (seek (with_parameters (Some msbc) new_decoder) 1000).answer) (399 ∷ 160 ∷ []) ∷ []

abbrev pub table : List Figure
table = sizes ++ (headers ++ (checksums ++ (shares ++ (reconstructions ++ (quantizings ++ (factors ++ seeks))))))

-- ---- the statement

pub figures_hold : map (λ row. row.given) table ≡ map (λ row. row.stated) table
unfolding sizes headers checksums shares share_set reconstructions quantizings factors seeks least_set dual_set shown_set shown_valid all_of
    index_of listed odd bits_of crc_step crc_bits high_quality msbc sample_rates block_counts channel_modes allocations subband_counts
    maximum_bitpool is_msbc msbc_tests field_tests accepted validate join_count block_bits audio_bits frame_length samples_per_channel
    frame_samples from_settings parse seek_frame seek_offset seek_skip request_in seek_request seek_answered seek
    with_parameters new_decoder shown_seek first_from scale_factor quantize reconstruct build collect need sum above heights level_part
    level_bits descend greatest_need least_need level_of base_bits round_gain round_bits last_bit share_at share channel_needs allocate_by
    allocate
figures_hold = refl
