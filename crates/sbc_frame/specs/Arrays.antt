-- How the code of both directions holds what belongs to subbands, for the contracts of its inner functions alone: a
-- number for each subband in a row of eight, and the subband samples of a channel in 16 rows of eight, a row for each
-- block. No call of a user's cites this.
-- From document 01, "Parameters", "Quantizing" and "Joint stereo".
use Rattle.std.specs.Prelude.{ℕ, ◌≤◌, ◌<◌, ◌≡◌, List, [], eqb, ltb, get_or, set, replicate, ℤ, pos, nat_abs, if◌then◌else◌}
use Rattle.laws.specs.Lists.{build}
use Rattle.sbc_frame.specs.Encoding.{sample_at}
use Rattle.sbc_frame.specs.declared.blocks.Blocks.{Blocks}

-- a row's entry
abbrev pub entry : List ℕ → ℕ → ℕ
entry row s = get_or row s 0

-- f below n, and 0 from n on
abbrev pub below : ℕ → (ℕ → ℕ) → ℕ → ℕ
below n f k = if ltb k n then f k else 0

-- the rows of channel c; none where there is no such channel
abbrev pub rows_of : List Blocks → ℕ → List (List ℤ)
rows_of channels c = (get_or channels c (record { rows = [] })).rows

-- the 16 rows of an array, those of the first n blocks replaced
unfoldable pub with_rows : ℕ → (ℕ → List ℤ) → List (List ℤ) → List (List ℤ)
with_rows n row xs = build 16 (λ b. if ltb b n then row b else get_or xs b [])

-- an array holds the samples of n blocks, and zeros behind a block's samples
abbrev pub SamplesIn : ℕ → List (List ℤ) → List (List ℤ) → Type 0
SamplesIn n samples xs = (b s : ℕ) → b < n → s < 8 → sample_at xs b s ≡ sample_at samples b s

-- 16 rows of eight zeros
unfoldable pub no_samples : List (List ℤ)
no_samples = replicate 16 (replicate 8 (pos 0))

-- the array of the samples of n blocks, with zeros behind the blocks too
unfoldable pub samples_array : ℕ → List (List ℤ) → List (List ℤ)
samples_array n samples = with_rows n (λ b. build 8 (sample_at samples b)) no_samples

-- no sample of the first n blocks has an absolute value above the bound
abbrev pub Small : ℕ → ℕ → List (List ℤ) → Type 0
Small n bound xs = (b s : ℕ) → b < n → nat_abs (sample_at xs b s) ≤ bound

-- an array of samples with those of subband s replaced in its first n blocks
unfoldable pub with_subband : ℕ → ℕ → (ℕ → ℤ) → List (List ℤ) → List (List ℤ)
with_subband n s f xs = with_rows n (λ b. set (get_or xs b []) s (f b)) xs

-- an array of samples with those of every subband whose flag is set replaced in its first n blocks
unfoldable pub with_flagged : ℕ → List ℕ → (ℕ → ℕ → ℤ) → List (List ℤ) → List (List ℤ)
with_flagged n flags f xs = with_rows n (λ b. build 8 (λ s. if eqb (entry flags s) 1 then f b s else sample_at xs b s)) xs
