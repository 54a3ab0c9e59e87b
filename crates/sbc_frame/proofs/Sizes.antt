-- How many join flags and scale factors a frame has: no more than a row of eight holds.
-- Assumes nothing.
use Prim.Native.Nat.{ℕ, zero, suc, ◌-◌, ◌*◌, ◌≤◌, ◌<◌}
use mathlib.Core.Path.{◌≡◌, refl}
use mathlib.Core.Bool.{true}
use native.Mathlib.Omega.{arith}
use Rattle.std.specs.Prelude.{if◌then◌else◌}
use Rattle.laws.proofs.Cases.{by-test}
use Rattle.sbc_modes.specs.declared.SbcChannelMode.{SbcChannelMode}
use Rattle.sbc_modes.specs.declared.SbcChannelMode.TheVariants.{Mono, DualChannel, Stereo, JointStereo}
use Rattle.sbc_parameters.specs.declared.SbcParameters.{SbcParameters}
use Rattle.sbc_modes.specs.Modes.{channels_of, is_joint}
use Rattle.sbc_parameters.specs.Parameters.{channels, accepted}
use Rattle.sbc_parameters.specs.Sizes.{join_count}
use Rattle.sbc_parameters.proofs.Accepted.{channels-range, ranges}

-- join flags are there with two channels only
pub joins-two : (p : SbcParameters) (s : ℕ) → s < join_count p → channels p ≡ 2
unfolding join_count
joins-two p s = go p.channel_mode
  where
    go : (m : SbcChannelMode) → s < (if is_joint m then p.subbands else 0) → channels_of m ≡ 2
    go Mono h = absurd (omega arith)
    go DualChannel h = refl
    go Stereo h = refl
    go JointStereo h = refl

pub joins-le : (p : SbcParameters) → join_count p ≤ p.subbands
unfolding join_count
joins-le p = by-test (λ n. n ≤ p.subbands) (is_joint p.channel_mode) p.subbands 0 (λ _. omega arith) (λ _. omega arith)

-- the sizes of the rows
pub record RowSizes (p : SbcParameters) : Type 0 where
  pub channels-low : 1 ≤ channels p
  pub joins-high : join_count p ≤ 8
  pub subbands-high : p.subbands ≤ 8
  pub others-high : p.subbands * (channels p - 1) ≤ 8

pub row-sizes : (p : SbcParameters) → accepted p ≡ true → RowSizes p
row-sizes p a =
    let most = (ranges p a).subbands-high in
    record {
      channels-low = (channels-range p).0;
      joins-high = omega (arith, joins-le p);
      subbands-high = most;
      others-high = go (channels p) (channels-range p).1;
    }
  where
    go : (n : ℕ) → n ≤ 2 → p.subbands * (n - 1) ≤ 8
    go zero h = omega arith
    go (suc zero) h = omega arith
    go (suc (suc zero)) h = omega (arith, (ranges p a).subbands-high)
    go (suc (suc (suc n))) h = absurd (omega arith)
