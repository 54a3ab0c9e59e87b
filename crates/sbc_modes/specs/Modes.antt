-- The channel modes and the allocations, each list in the order of its index in the header, and what a mode says. From
-- document 01, "Parameters".
use Rattle.std.specs.Prelude.{ℕ, Bool, true, false, List, [], ◌∷◌}
use Rattle.sbc_modes.specs.declared.SbcChannelMode.{SbcChannelMode}
use Rattle.sbc_modes.specs.declared.SbcChannelMode.TheVariants.{Mono, DualChannel, Stereo, JointStereo}
use Rattle.sbc_modes.specs.declared.SbcAllocation.{SbcAllocation}
use Rattle.sbc_modes.specs.declared.SbcAllocation.TheVariants.{Loudness, Snr}

unfoldable pub channel_modes : List SbcChannelMode
channel_modes = Mono ∷ DualChannel ∷ Stereo ∷ JointStereo ∷ []

unfoldable pub allocations : List SbcAllocation
allocations = Loudness ∷ Snr ∷ []

-- the index of a mode
abbrev pub mode_number : SbcChannelMode → ℕ
mode_number Mono = 0
mode_number DualChannel = 1
mode_number Stereo = 2
mode_number JointStereo = 3

-- the index of an allocation
abbrev pub allocation_number : SbcAllocation → ℕ
allocation_number Loudness = 0
allocation_number Snr = 1

-- ---- what the channel mode says

abbrev pub channels_of : SbcChannelMode → ℕ
channels_of Mono = 1
channels_of DualChannel = 2
channels_of Stereo = 2
channels_of JointStereo = 2

-- each channel has a bitpool of its own
abbrev pub separate : SbcChannelMode → Bool
separate Mono = true
separate DualChannel = true
separate Stereo = false
separate JointStereo = false

-- subbands may be joined
abbrev pub is_joint : SbcChannelMode → Bool
is_joint Mono = false
is_joint DualChannel = false
is_joint Stereo = false
is_joint JointStereo = true
