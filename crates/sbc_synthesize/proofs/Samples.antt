-- The outputs' sums, with their bound, which is P's, by one test that antt computes over the whole table.
-- Assumes nothing.
use Prim.Native.Nat.{ℕ, ◌+◌, ◌*◌, ◌^◌, ◌≤◌, ◌<◌}
use mathlib.Core.Bool.{Bool}
use mathlib.Core.Path.{sym, subst}
use mathlib.Core.List.{List}
use native.Mathlib.Nat.{le_trans, mul-le-mul_right}
use lib.Dec.{leb, leb→le}
use lib.ListN.{get_or}
use lib.IntN.{ℤ, pos}
use Rattle.laws.specs.Lists.{total}
use Rattle.laws.specs.Integers.{Within}
use Rattle.laws.specs.Sums.{sum_z}
use Rattle.laws.proofs.Arrays.{get_or-filled, within-up_to}
use Rattle.laws.proofs.Table.{at}
use Rattle.sbc_tables.specs.Tables.{prototype, prototype4, prototype8}
use Rattle.sbc_filterbank.specs.Subbands.{Bands, prototype_at}
use Rattle.sbc_filterbank.specs.Synthesis.{vector_at, vector_place, sample_term}
use Rattle.sbc_filterbank.specs.Ring.{ring}
use Rattle.sbc_synthesize.specs.Summing.{tap_sum, output_bound, OutputSums}
use Rattle.sbc_filterbank.proofs.Bands.{for-bands, bands-le}
use Rattle.sbc_filterbank.proofs.Bounds.{Summed}

-- ---- the entries of P that output j takes
tap-sum-small : ℕ → ℕ → Bool
tap-sum-small S j = leb (tap_sum S 10 j) 700000000

pub tap-sum-bound : {S : ℕ} (j : ℕ) → Bands S → j < S → tap_sum S 10 j ≤ 700000000
unfolding tap-sum-small total prototype_at prototype prototype4 prototype8
tap-sum-bound j b =
    for-bands (λ s. j < s → tap_sum s 10 j ≤ 700000000) b
    (λ h. leb→le (tap_sum 4 10 j) 700000000 (at 4 (tap-sum-small 4) tt j h))
    (λ h. leb→le (tap_sum 8 10 j) 700000000 (at 8 (tap-sum-small 8) tt j h))

-- ---- the sum of output j
abbrev pub SampleSummed : ℕ → List (List ℤ) → ℕ → ℕ → ℤ → Type 0
SampleSummed S vs j = Summed (2 ^ 31) (λ b. prototype_at S (b * S + j)) (λ b. vector_at vs b (vector_place S j b))

-- ---- the sums of the outputs: each as the sum above, and the ten vectors' within the prototype's bound
module _ {S : ℕ} (vs : List (List ℤ)) (sums : List ℤ) (b : Bands S) where
  pub sample-summed : (n j : ℕ) → OutputSums S vs n sums → j < S → SampleSummed S vs j n (get_or sums j (pos 0))
  sample-summed n j e h = record { is = get_or-filled 8 S (λ i. sum_z n (sample_term S vs i)) sums j e.0 h (bands-le b); small = e.1 j h }

  pub output-sums-within : OutputSums S vs 10 sums → Within output_bound sums
  output-sums-within e =
      subst (Within output_bound) (sym e.0)
      (within-up_to 8 S output_bound (λ j. sum_z 10 (sample_term S vs j))
      (λ j h. le_trans (e.1 j h) (mul-le-mul_right (2 ^ 31) (tap-sum-bound j b h))))

-- ---- the sum of output j over the vectors of the ring up to b
abbrev pub summed : ℕ → List ℤ → ℕ → ℕ → ℕ → ℤ
summed S values newest b j = sum_z (b + 1) (sample_term S (ring S values newest) j)
