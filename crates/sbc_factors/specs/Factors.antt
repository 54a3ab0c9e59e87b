-- How the code takes the scale factors of a frame, for the contracts of its inner functions alone: rows of eight, from
-- a channel's samples in 16 rows of eight, a row for each block. No call of a user's cites this.
-- From document 01, "Quantizing".
use Rattle.std.specs.Prelude.{ℕ, max, List, get_or, ℤ, pos, nat_abs}
use Rattle.laws.specs.Lists.{build, greatest}
use Rattle.sbc_quantizer.specs.Quantizing.{scale_factor}
use Rattle.sbc_frame.specs.Encoding.{sample_at}

-- the greatest absolute value of a subband in n blocks
abbrev pub maximum_in : ℕ → List (List ℤ) → ℕ → ℕ
maximum_in n xs s = greatest n (λ b. nat_abs (sample_at xs b s))

-- those of all subbands
unfoldable pub maxima_in : ℕ → List (List ℤ) → List ℕ
maxima_in n xs = build 8 (maximum_in n xs)

-- the greatest of these values and the absolute values of a row, by subband
unfoldable pub raised : List ℕ → List ℤ → List ℕ
raised top row = build 8 (λ s. max (get_or top s 0) (nat_abs (get_or row s (pos 0))))

-- the scale factor of each subband in n blocks
unfoldable pub factors_in : ℕ → List (List ℤ) → List ℕ
factors_in n xs = build 8 (λ s. scale_factor (maximum_in n xs s))
