-- The analysis filterbank (document 01, "Filterbanks") for S subbands: a block of S samples enters the history X, and the history gives S
-- outputs. X is a list of 80 samples, newest first.
use Rattle.std.specs.Prelude.{ℕ, ◌+◌, ◌*◌, ◌-◌, ◌/◌, ◌^◌, List, ltb, length, get_or, ℤ, pos, ◌-ℤ◌, ◌*ℤ◌, if◌then◌else◌}
use Rattle.laws.specs.Lists.{build}
use Rattle.laws.specs.Integers.{floor_div}
use Rattle.laws.specs.Sums.{sum_z}
use Rattle.sbc_filterbank.specs.Subbands.{prototype_at, cosine_at}

-- ---- the history is shifted by S, newest sample first. `input` has the block's oldest sample first. The shift is one of the first 10 S
-- places: with 4 subbands, places 40 to 79 stay as they are
abbrev pub shifted_at : ℕ → List ℤ → List ℤ → ℕ → ℤ
shifted_at S X input k =
    if ltb k S then get_or input (S - 1 - k) (pos 0) else (if ltb k (10 * S) then get_or X (k - S) (pos 0) else get_or X k (pos 0))

-- the next X
unfoldable pub shifted : ℕ → List ℤ → List ℤ → List ℤ
shifted S X input = build (length X) (shifted_at S X input)

-- ---- Y[k] = floor(sum over j from 0 to 4 of P[k + 2 S j] × X[k + 2 S j] ÷ 2^15)
abbrev pub window_term : ℕ → List ℤ → ℕ → ℕ → ℤ
window_term S X k j = prototype_at S (k + 2 * S * j) *ℤ get_or X (k + 2 * S * j) (pos 0)

-- Y[k]
unfoldable pub windowed : ℕ → List ℤ → ℕ → ℤ
windowed S X k = floor_div (sum_z 5 (window_term S X k)) (2 ^ 15)

-- ---- output i = floor(sum over k < 2 S of C[(2 i + 1) (k − S/2) × 8/S mod 32] × Y[k] ÷ 2^33)
unfoldable pub analysis_cosine : ℕ → ℕ → ℕ → ℤ
analysis_cosine S i k = cosine_at (pos (2 * i + 1) *ℤ (pos k -ℤ pos (S / 2)) *ℤ pos (8 / S))

abbrev pub subband_term : ℕ → (ℕ → ℤ) → ℕ → ℕ → ℤ
subband_term S Y i k = analysis_cosine S i k *ℤ Y k

-- output i
unfoldable pub subband_sample : ℕ → (ℕ → ℤ) → ℕ → ℤ
subband_sample S Y i = floor_div (sum_z (2 * S) (subband_term S Y i)) (2 ^ 33)

-- the S outputs of a history
unfoldable pub analysis_outputs : ℕ → List ℤ → List ℤ
analysis_outputs S X = build S (subband_sample S (windowed S X))
