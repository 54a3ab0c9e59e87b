-- The sizes of a frame, for all values of the fields. From document 01, "Parameters".
use Rattle.std.specs.Prelude.{ℕ, ◌+◌, ◌*◌, ◌/◌, ◌≤◌, ◌≡◌, true, if◌then◌else◌}
use Rattle.sbc_modes.specs.Modes.{separate, is_joint}
use Rattle.sbc_modes.specs.declared.SbcChannelMode.TheVariants.{DualChannel}
use Rattle.sbc_modes.specs.declared.SbcAllocation.TheVariants.{Loudness}
use Rattle.sbc_parameters.specs.Parameters.{channels, accepted}
use Rattle.sbc_parameters.specs.declared.SbcParameters.{SbcParameters}

-- one join flag a subband, in joint stereo only
unfoldable pub join_count : SbcParameters → ℕ
join_count p = if is_joint p.channel_mode then p.subbands else 0

-- the join flags and the 4-bit scale factors, which the checksum covers
unfoldable pub side_bits : SbcParameters → ℕ
side_bits p = join_count p + 4 * (p.subbands * channels p)

-- the bits of the quantized values of one block: bitpool for each channel in mono and dual channel, bitpool for both together otherwise
unfoldable pub block_bits : SbcParameters → ℕ
block_bits p = if separate p.channel_mode then channels p * p.bitpool else p.bitpool

-- the quantized values of all blocks, and in joint stereo the join flags
unfoldable pub audio_bits : SbcParameters → ℕ
audio_bits p = join_count p + p.blocks * block_bits p

-- bytes: 4, the scale factors at half a byte each, and the audio bits, rounded up
unfoldable pub frame_length : SbcParameters → ℕ
frame_length p = 4 + p.subbands * channels p / 2 + (audio_bits p + 7) / 8

-- samples of one channel
unfoldable pub samples_per_channel : SbcParameters → ℕ
samples_per_channel p = p.blocks * p.subbands

-- samples of all channels
unfoldable pub frame_samples : SbcParameters → ℕ
frame_samples p = samples_per_channel p * channels p

-- ---- the largest frame, of the constants SBC_MAXIMUM_FRAME_LENGTH and SBC_MAXIMUM_FRAME_SAMPLES

-- dual, 16 blocks, 8 subbands, bitpool 128: 524 (document 01, "Checked figures"); rate and allocation change no size
unfoldable pub largest_set : SbcParameters
largest_set = record { sample_rate = 48000; channel_mode = DualChannel; allocation = Loudness; blocks = 16; subbands = 8; bitpool = 128 }

-- bytes
unfoldable pub maximum_frame_length : ℕ
maximum_frame_length = frame_length largest_set

-- samples of all channels
unfoldable pub maximum_frame_samples : ℕ
maximum_frame_samples = frame_samples largest_set

-- The set is accepted, and no accepted set has a longer frame, or one of more samples.
pub record LargestFrame : Type 0 where
  pub taken : accepted largest_set ≡ true
  pub length : (p : SbcParameters) → accepted p ≡ true → frame_length p ≤ maximum_frame_length
  pub samples : (p : SbcParameters) → accepted p ≡ true → frame_samples p ≤ maximum_frame_samples
