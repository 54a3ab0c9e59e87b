-- The first three bytes of a frame: what is written for a set of parameters, and what is read from them. From document 01, "Parameters".
use Rattle.std.specs.Prelude.{ℕ, ◌+◌, ◌*◌, ◌/◌, ◌%◌, List, [], ◌∷◌, eqb, ltb, length, get_or, if◌then◌else◌}
use Rattle.laws.specs.Answers.{Told, gives, refuses}
use Rattle.laws.specs.Lists.{place_in}
use Rattle.sbc_modes.specs.Modes.{channel_modes, allocations, mode_number, allocation_number}
use Rattle.sbc_parameters.specs.Parameters.{sample_rates, block_counts, subband_counts, is_msbc, msbc, accepted}
use Rattle.sbc_modes.specs.declared.SbcChannelMode.TheVariants.{JointStereo}
use Rattle.sbc_modes.specs.declared.SbcAllocation.TheVariants.{Snr}
use Rattle.sbc_parameters.specs.declared.SbcParameters.{SbcParameters}

-- ---- writing: each field by the index of its value in its list; a value that is not listed, which no accepted set has, counts as index 0

-- the index of the rate
unfoldable pub frequency_index : SbcParameters → ℕ
frequency_index p = place_in p.sample_rate sample_rates

-- from the high bit: rate 2 bits, blocks 2 bits, mode 2 bits, allocation 1 bit, subbands 1 bit
unfoldable pub settings_byte : SbcParameters → ℕ
settings_byte p =
    frequency_index p * 64 + place_in p.blocks block_counts * 16 + mode_number p.channel_mode * 4 + allocation_number p.allocation * 2
    + place_in p.subbands subband_counts

-- of mSBC the bytes 1 and 2 are written 0
unfoldable pub header : SbcParameters → List ℕ
header p = if is_msbc p then 0xAD ∷ 0 ∷ 0 ∷ [] else 0x9C ∷ settings_byte p ∷ p.bitpool ∷ []

-- ---- reading

-- the set that a settings byte and a bitpool stand for
unfoldable pub from_settings : ℕ → ℕ → SbcParameters
from_settings settings bitpool =
    record {
      sample_rate = get_or sample_rates (settings / 64) 0;
      blocks = get_or block_counts (settings / 16 % 4) 0;
      channel_mode = get_or channel_modes (settings / 4 % 4) JointStereo;
      allocation = get_or allocations (settings / 2 % 2) Snr;
      subbands = get_or subband_counts (settings % 2) 0;
      bitpool = bitpool;
    }

-- under 3 bytes Incomplete, even after AD; InvalidHeader where the first byte is neither 9C nor AD, or the bitpool is out of range
unfoldable pub parse : List ℕ → Told SbcParameters
parse bytes =
    let p = from_settings (get_or bytes 1 0) (get_or bytes 2 0) in
    if ltb (length bytes) 3 then refuses 1 else
    if eqb (get_or bytes 0 0) 0xAD then gives msbc else
    if eqb (get_or bytes 0 0) 0x9C then (if accepted p then gives p else refuses 2) else
    refuses 2
