-- The numbers that cross to C, and what they stand for: parameters, and what a call gives back.
use Rattle.std.specs.Prelude.{ℕ, Bool, ◌&&◌, ltb, get_or, if◌then◌else◌}
use Rattle.laws.specs.Answers.{Told, gives, refuses}
use Rattle.sbc_modes.specs.Modes.{channel_modes, allocations, mode_number, allocation_number}
use Rattle.sbc_parameters.specs.Parameters.{accepted}
use Rattle.sbc_modes.specs.declared.SbcChannelMode.TheVariants.{JointStereo}
use Rattle.sbc_modes.specs.declared.SbcAllocation.TheVariants.{Snr}
use Rattle.sbc_parameters.specs.declared.SbcParameters.{SbcParameters}
use Rattle.codec.specs.declared.Progress.{Progress}
use Rattle.abi_numbers.specs.declared.ParameterNumbers.{ParameterNumbers}
use Rattle.abi_numbers.specs.declared.ParsedNumbers.{ParsedNumbers}
use Rattle.abi_numbers.specs.declared.CodedNumbers.{CodedNumbers}

-- ---- parameters

-- the mode and the allocation are numbers of one
unfoldable pub is_set : ParameterNumbers → Bool
is_set n = ltb n.channel_mode 4 && ltb n.allocation 2

unfoldable pub parameters_in : ParameterNumbers → SbcParameters
parameters_in n =
    record {
      sample_rate = n.sample_rate;
      channel_mode = get_or channel_modes n.channel_mode JointStereo;
      allocation = get_or allocations n.allocation Snr;
      blocks = n.blocks;
      subbands = n.subbands;
      bitpool = n.bitpool;
    }

unfoldable pub numbers_of : SbcParameters → ParameterNumbers
numbers_of p =
    record {
      sample_rate = p.sample_rate;
      channel_mode = mode_number p.channel_mode;
      allocation = allocation_number p.allocation;
      blocks = p.blocks;
      subbands = p.subbands;
      bitpool = p.bitpool;
    }

-- in the place of parameters where there are none
unfoldable pub no_numbers : ParameterNumbers
no_numbers = record { sample_rate = 0; channel_mode = 0; allocation = 0; blocks = 0; subbands = 0; bitpool = 0 }

unfoldable pub is_accepted : ParameterNumbers → Bool
is_accepted n = is_set n && accepted (parameters_in n)

-- a size of a frame; 0 where the parameters are not accepted
unfoldable pub size_in : (SbcParameters → ℕ) → ParameterNumbers → ℕ
size_in size n = if is_accepted n then size (parameters_in n) else 0

-- ---- what a call gives back: refusal 0 with what it gives, or the refusal's number with zeros

unfoldable pub parsed_numbers : Told SbcParameters → ParsedNumbers
parsed_numbers (gives p) = record { parameters = numbers_of p; refusal = 0 }
parsed_numbers (refuses n) = record { parameters = no_numbers; refusal = n }

unfoldable pub coded_numbers : Told Progress → CodedNumbers
coded_numbers (gives progress) = record { consumed = progress.consumed; produced = progress.produced; refusal = 0 }
coded_numbers (refuses n) = record { consumed = 0; produced = 0; refusal = n }
