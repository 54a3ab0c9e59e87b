-- `SbcParameters::is_accepted` meets its contract: of a set with 15 blocks, equality with mSBC's set is the tests of the definition.
-- Assumes nothing.
use mathlib.Core.Path.{◌≡◌, refl, sym, ◌∙◌}
use mathlib.Core.Bool.{true}
use lib.Dec.{eqb}
use denote.Enum.Bare.{sameb}
use Rattle.laws.specs.Lists.{all_of}
use Rattle.laws.proofs.Tests.{and-true}
use Rattle.sbc_modes.specs.Modes.{mode_number, allocation_number}
use Rattle.sbc_modes.specs.declared.SbcChannelMode.{SbcChannelMode}
use Rattle.sbc_modes.specs.declared.SbcChannelMode.TheVariants.{Mono, DualChannel, Stereo, JointStereo}
use Rattle.sbc_modes.specs.declared.SbcAllocation.{SbcAllocation}
use Rattle.sbc_modes.specs.declared.SbcAllocation.TheVariants.{Loudness, Snr}
use Rattle.sbc_modes.specs.contracts.SbcChannelMode.{the_type as mode_type}
use Rattle.sbc_modes.specs.contracts.SbcAllocation.{the_type as allocation_type}
use Rattle.sbc_parameters.specs.Parameters.{is_msbc, msbc_tests, accepted}
use Rattle.sbc_parameters.proofs.SbcParameters.is_accepted.Goals as goal

mode_same : (m : SbcChannelMode) → sameb mode_type m Mono ≡ eqb (mode_number m) 0
mode_same Mono = refl
mode_same DualChannel = refl
mode_same Stereo = refl
mode_same JointStereo = refl

allocation_same : (a : SbcAllocation) → sameb allocation_type a Loudness ≡ eqb (allocation_number a) 0
allocation_same Loudness = refl
allocation_same Snr = refl

pub returns-then-is_msbc : goal.returns-then-is_msbc
unfolding accepted is_msbc msbc_tests all_of
returns-then-is_msbc c =
    let p = c.args.self in
    let blocks : eqb p.blocks 15 ≡ true = sym c.is_msbc.ensures ∙ c.if-is_msbc.true in
    rw (c.eq.ensures, mode_same p.channel_mode, allocation_same p.allocation, blocks, and-true)
