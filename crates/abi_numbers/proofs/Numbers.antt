-- Parameters as numbers and back.
-- Assumes nothing.
use Prim.Native.Nat.{ℕ, zero, suc, ◌<◌}
use mathlib.Core.Path.{◌≡◌, refl}
use mathlib.Core.Bool.{true}
use native.Mathlib.Omega.{arith}
use lib.Dec.{ltb}
use lib.ListN.{get_or}
use borrow.Author.Tests.{lt-ltb, ltb-true}
use Rattle.laws.proofs.Tests.{and_left, and_right}
use Rattle.sbc_modes.specs.Modes.{channel_modes, allocations, mode_number, allocation_number}
use Rattle.sbc_modes.specs.declared.SbcChannelMode.TheVariants.{JointStereo}
use Rattle.sbc_modes.specs.declared.SbcAllocation.TheVariants.{Snr}
use Rattle.sbc_parameters.specs.declared.SbcParameters.{SbcParameters}
use Rattle.sbc_modes.proofs.Numbers.{mode-lt, mode-back, allocation-lt, allocation-back}
use Rattle.abi_numbers.specs.Numbers.{is_set, parameters_in, numbers_of}
use Rattle.abi_numbers.specs.declared.ParameterNumbers.{ParameterNumbers}

mode-there : (n : ℕ) → n < 4 → mode_number (get_or channel_modes n JointStereo) ≡ n
unfolding channel_modes
mode-there zero lt = refl
mode-there (suc zero) lt = refl
mode-there (suc (suc zero)) lt = refl
mode-there (suc (suc (suc zero))) lt = refl
mode-there (suc (suc (suc (suc n)))) lt = absurd (omega arith)

allocation-there : (n : ℕ) → n < 2 → allocation_number (get_or allocations n Snr) ≡ n
unfolding allocations
allocation-there zero lt = refl
allocation-there (suc zero) lt = refl
allocation-there (suc (suc n)) lt = absurd (omega arith)

-- parameters, their numbers, and the parameters again
pub parameters-back : (p : SbcParameters) → parameters_in (numbers_of p) ≡ p
unfolding parameters_in numbers_of
parameters-back p =
    let mode = mode-back p.channel_mode in
    let allocation = allocation-back p.allocation in
    λ i. record {
      sample_rate = p.sample_rate;
      channel_mode = mode i;
      allocation = allocation i;
      blocks = p.blocks;
      subbands = p.subbands;
      bitpool = p.bitpool;
    }

-- numbers of a set, the parameters, and the numbers again
pub numbers-back : (n : ParameterNumbers) → is_set n ≡ true → numbers_of (parameters_in n) ≡ n
unfolding is_set parameters_in numbers_of
numbers-back n set =
    let l = ltb n.channel_mode 4 in
    let r = ltb n.allocation 2 in
    let mode = mode-there n.channel_mode (ltb-true n.channel_mode 4 (and_left l r set)) in
    let allocation = allocation-there n.allocation (ltb-true n.allocation 2 (and_right l r set)) in
    λ i. record {
      sample_rate = n.sample_rate;
      channel_mode = mode i;
      allocation = allocation i;
      blocks = n.blocks;
      subbands = n.subbands;
      bitpool = n.bitpool;
    }

pub numbers-set : (p : SbcParameters) → is_set (numbers_of p) ≡ true
unfolding is_set numbers_of
numbers-set p =
    let mode = lt-ltb (mode_number p.channel_mode) 4 (mode-lt p.channel_mode) in
    let allocation = lt-ltb (allocation_number p.allocation) 2 (allocation-lt p.allocation) in
    rw (mode, allocation) refl
