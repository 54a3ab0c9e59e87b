-- How the code of the synthesis sums the outputs, vector by vector, for the contracts of its inner functions alone. No call of a user's
-- cites this. From document 01, "Filterbanks": "The Rust's folding and ring must equal these sums."
use Rattle.std.specs.Prelude.{ℕ, ◌+◌, ◌*◌, ◌^◌, ◌≤◌, ◌<◌, ◌≡◌, List, ℤ, nat_abs}
use Rattle.laws.specs.Lists.{build, total}
use Rattle.laws.specs.Sums.{sum_z, up_to}
use Rattle.sbc_filterbank.specs.Subbands.{prototype_at}
use Rattle.sbc_filterbank.specs.Synthesis.{sample_term}

-- what the taps of output j for the n newest vectors sum to, each without its sign: for all ten at most 700000000
abbrev pub tap_sum : ℕ → ℕ → ℕ → ℕ
tap_sum S n j = total n (λ b. nat_abs (prototype_at S (b * S + j)))

-- so an output's sum is within this, as a vector's numbers are within 2 ^ 31
abbrev pub output_bound : ℕ
output_bound = 700000000 * 2 ^ 31

-- the S sums of the outputs over the n newest vectors, in an array of eight, and their bounds
abbrev pub OutputSums : ℕ → List (List ℤ) → ℕ → List ℤ → Type 0
OutputSums S vs n sums =
    (sums ≡ build 8 (up_to S (λ j. sum_z n (sample_term S vs j))))
    × ((j : ℕ) → j < S → nat_abs (sum_z n (sample_term S vs j)) ≤ tap_sum S n j * 2 ^ 31)
