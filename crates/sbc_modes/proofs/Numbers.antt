-- The numbers of the channel modes and the allocations in the header, and back; how many channels a mode has.
-- Assumes nothing.
use Prim.Native.Nat.{ℕ, zero, suc, ◌<◌, ◌≤◌}
use mathlib.Core.Path.{◌≡◌, refl}
use native.Mathlib.Omega.{arith}
use lib.Dec.{lit<, lit≤}
use lib.ListN.{get_or}
use Rattle.sbc_modes.specs.Modes.{channel_modes, allocations, mode_number, allocation_number, channels_of}
use Rattle.sbc_modes.specs.declared.SbcChannelMode.{SbcChannelMode}
use Rattle.sbc_modes.specs.declared.SbcChannelMode.TheVariants.{Mono, DualChannel, Stereo, JointStereo}
use Rattle.sbc_modes.specs.declared.SbcAllocation.{SbcAllocation}
use Rattle.sbc_modes.specs.declared.SbcAllocation.TheVariants.{Loudness, Snr}

-- ---- from the number to the value: the last value stands for every number past the others
pub mode_rest : (n : ℕ) → (n ≡ 0 → ⊥) → (n ≡ 1 → ⊥) → (n ≡ 2 → ⊥) → get_or channel_modes n JointStereo ≡ JointStereo
unfolding channel_modes
mode_rest zero a b c = absurd (a refl)
mode_rest (suc zero) a b c = absurd (b refl)
mode_rest (suc (suc zero)) a b c = absurd (c refl)
mode_rest (suc (suc (suc zero))) a b c = refl
mode_rest (suc (suc (suc (suc n)))) a b c = refl

pub allocation_rest : (n : ℕ) → (n ≡ 0 → ⊥) → get_or allocations n Snr ≡ Snr
unfolding allocations
allocation_rest zero a = absurd (a refl)
allocation_rest (suc zero) a = refl
allocation_rest (suc (suc n)) a = refl

-- ---- from the value to its number and back
pub mode-lt : (m : SbcChannelMode) → mode_number m < 4
mode-lt Mono = lit< tt
mode-lt DualChannel = lit< tt
mode-lt Stereo = lit< tt
mode-lt JointStereo = lit< tt

pub mode-back : (m : SbcChannelMode) → get_or channel_modes (mode_number m) JointStereo ≡ m
unfolding channel_modes
mode-back Mono = refl
mode-back DualChannel = refl
mode-back Stereo = refl
mode-back JointStereo = refl

pub allocation-lt : (a : SbcAllocation) → allocation_number a < 2
allocation-lt Loudness = lit< tt
allocation-lt Snr = lit< tt

pub allocation-back : (a : SbcAllocation) → get_or allocations (allocation_number a) Snr ≡ a
unfolding allocations
allocation-back Loudness = refl
allocation-back Snr = refl

-- ---- number 0
pub mono : (m : SbcChannelMode) → mode_number m ≡ 0 → m ≡ Mono
mono Mono e = refl
mono DualChannel e = absurd (omega arith)
mono Stereo e = absurd (omega arith)
mono JointStereo e = absurd (omega arith)

pub loudness : (a : SbcAllocation) → allocation_number a ≡ 0 → a ≡ Loudness
loudness Loudness e = refl
loudness Snr e = absurd (omega arith)

-- 1 or 2 channels
pub channels-of-range : (m : SbcChannelMode) → (1 ≤ channels_of m) × (channels_of m ≤ 2)
channels-of-range Mono = (lit≤ tt, lit≤ tt)
channels-of-range DualChannel = (lit≤ tt, lit≤ tt)
channels-of-range Stereo = (lit≤ tt, lit≤ tt)
channels-of-range JointStereo = (lit≤ tt, lit≤ tt)
