-- The values of the fields by their index in the header.
-- Assumes nothing.
use Prim.Native.Nat.{ℕ, zero, suc, ◌+◌, ◌*◌, ◌<◌}
use mathlib.Core.Path.{◌≡◌, refl}
use mathlib.Core.List.{[], ◌∷◌}
use native.Mathlib.Omega.{arith}
use lib.Dec.{lit<}
use lib.ListN.{get_or}
use Rattle.laws.specs.Lists.{place_in}
use Rattle.laws.proofs.Tests.{place-lt}
use Rattle.sbc_parameters.specs.Parameters.{sample_rates, block_counts, subband_counts}
use Rattle.sbc_modes.proofs.Numbers.{mode-lt, allocation-lt}
use Rattle.sbc_parameters.specs.Header.{frequency_index}
use Rattle.sbc_parameters.specs.declared.SbcParameters.{SbcParameters}

-- ---- values of the lists by their index
pub blocks_at : (n : ℕ) → n < 4 → 4 * (n + 1) ≡ get_or block_counts n 0
unfolding block_counts
blocks_at zero h = refl
blocks_at (suc zero) h = refl
blocks_at (suc (suc zero)) h = refl
blocks_at (suc (suc (suc zero))) h = refl
blocks_at (suc (suc (suc (suc n)))) h = absurd (omega arith)

pub subbands-at : (n : ℕ) → n < 2 → 4 * (n + 1) ≡ get_or subband_counts n 0
unfolding subband_counts
subbands-at zero h = refl
subbands-at (suc zero) h = refl
subbands-at (suc (suc n)) h = absurd (omega arith)

pub rates-are : sample_rates ≡ 16000 ∷ 32000 ∷ 44100 ∷ 48000 ∷ []
unfolding sample_rates
rates-are = refl

pub blocks-are : block_counts ≡ 4 ∷ 8 ∷ 12 ∷ 16 ∷ []
unfolding block_counts
blocks-are = refl

pub subbands-are : subband_counts ≡ 4 ∷ 8 ∷ []
unfolding subband_counts
subbands-are = refl

pub ruleset listed_at = (rates-are, blocks_at, subbands-at)

-- ---- the places of values are indexes of their lists
pub frequency-lt : (p : SbcParameters) → frequency_index p < 4
unfolding frequency_index sample_rates
frequency-lt p = place-lt p.sample_rate sample_rates (lit< tt)

pub blocks-lt : (x : ℕ) → place_in x block_counts < 4
unfolding block_counts
blocks-lt x = place-lt x block_counts (lit< tt)

pub subbands-lt : (x : ℕ) → place_in x subband_counts < 2
unfolding subband_counts
subbands-lt x = place-lt x subband_counts (lit< tt)

pub ruleset header_places = (blocks-are, subbands-are, frequency-lt, blocks-lt, subbands-lt, mode-lt, allocation-lt)
