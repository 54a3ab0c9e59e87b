-- The parameters of a stream, and which sets of them are accepted. From document 01, "Parameters" and "The words of demand 3".
use Rattle.std.specs.Prelude.{ℕ, ◌*◌, Bool, List, [], ◌∷◌, eqb, leb, ltb, if◌then◌else◌}
use Rattle.laws.specs.Answers.{Told, gives, refuses}
use Rattle.laws.specs.Lists.{all_of, listed}
use Rattle.sbc_modes.specs.Modes.{mode_number, allocation_number, channels_of, separate}
use Rattle.sbc_modes.specs.declared.SbcChannelMode.TheVariants.{Mono, JointStereo}
use Rattle.sbc_modes.specs.declared.SbcAllocation.TheVariants.{Loudness}
use Rattle.sbc_parameters.specs.declared.SbcParameters.{SbcParameters}

-- ---- the two sets that have a name

unfoldable pub high_quality : SbcParameters
high_quality = record { sample_rate = 44100; channel_mode = JointStereo; allocation = Loudness; blocks = 16; subbands = 8; bitpool = 53 }

unfoldable pub msbc : SbcParameters
msbc = record { sample_rate = 16000; channel_mode = Mono; allocation = Loudness; blocks = 15; subbands = 8; bitpool = 26 }

-- ---- the values of the fields, each list in the order of its index in the header

unfoldable pub sample_rates : List ℕ
sample_rates = 16000 ∷ 32000 ∷ 44100 ∷ 48000 ∷ []

unfoldable pub block_counts : List ℕ
block_counts = 4 ∷ 8 ∷ 12 ∷ 16 ∷ []

unfoldable pub subband_counts : List ℕ
subband_counts = 4 ∷ 8 ∷ []

-- ---- the channels of a set
abbrev pub channels : SbcParameters → ℕ
channels p = channels_of p.channel_mode

-- ---- the sets that are accepted

-- 16 × subbands in mono and dual channel, 32 × subbands otherwise
unfoldable pub maximum_bitpool : SbcParameters → ℕ
maximum_bitpool p = (if separate p.channel_mode then 16 else 32) * p.subbands

-- mSBC is known by its 15 blocks
unfoldable pub is_msbc : SbcParameters → Bool
is_msbc p = eqb p.blocks 15

-- the tests of a set with 15 blocks: it is exactly mSBC's
unfoldable pub msbc_tests : SbcParameters → List Bool
msbc_tests p =
    eqb p.sample_rate 16000
    ∷ eqb (mode_number p.channel_mode) (mode_number Mono)
    ∷ eqb (allocation_number p.allocation) (allocation_number Loudness)
    ∷ eqb p.subbands 8
    ∷ eqb p.bitpool 26
    ∷ []

-- the tests of every other set: each field has a listed value, and the bitpool is in its range and one byte
unfoldable pub field_tests : SbcParameters → List Bool
field_tests p =
    listed p.sample_rate sample_rates
    ∷ listed p.blocks block_counts
    ∷ listed p.subbands subband_counts
    ∷ leb 2 p.bitpool
    ∷ leb p.bitpool (maximum_bitpool p)
    ∷ ltb p.bitpool 256
    ∷ []

-- 15 blocks only as mSBC
unfoldable pub accepted : SbcParameters → Bool
accepted p = all_of (if is_msbc p then msbc_tests p else field_tests p)

-- ---- validate: InvalidParameter where the set is not accepted

unfoldable pub validate : SbcParameters → Told Unit
validate p = if accepted p then gives tt else refuses 3
