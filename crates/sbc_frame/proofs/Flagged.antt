-- Arrays of subband samples with those of every subband whose flag is set replaced in the first blocks: as a loop over
-- the blocks replaces them, and what it gives.
-- Assumes nothing.
use Prim.Native.Nat.{ℕ, ◌+◌, ◌≤◌, ◌<◌}
use mathlib.Core.Path.{◌≡◌, ap, ◌∙◌}
use mathlib.Core.List.{List, []}
use native.Mathlib.Omega.{arith}
use lib.Dec.{eqb}
use lib.ListN.{length, get_or, set}
use lib.IntN.{ℤ, pos}
use Rattle.std.specs.Prelude.{if◌then◌else◌}
use Rattle.laws.specs.Lists.{build}
use Rattle.laws.proofs.Lists.{get_or-build, build-ext}
use Rattle.sbc_frame.specs.Encoding.{sample_at}
use Rattle.sbc_frame.specs.Arrays.{entry, no_samples, samples_array, with_flagged}
use Rattle.sbc_frame.proofs.Columns.{rows_none, rows_next, row_in, row_out, rows_again, array_holds}

-- no block yet
pub flagged_none : (flags : List ℕ) (f : ℕ → ℕ → ℤ) (xs : List (List ℤ)) → length xs ≡ 16 → xs ≡ with_flagged 0 flags f xs
unfolding with_flagged
flagged_none flags f xs long = rows_none _ xs long

module _ (n : ℕ) (flags : List ℕ) (f : ℕ → ℕ → ℤ) where
  -- the samples of a block
  abbrev flagged_at : List (List ℤ) → ℕ → ℕ → ℤ
  flagged_at xs b s = if eqb (entry flags s) 1 then f b s else sample_at xs b s

  module _ (xs : List (List ℤ)) where
    -- the next block is still the old one
    pub flagged_row : (ys : List (List ℤ)) → ys ≡ with_flagged n flags f xs → n < 16 → get_or ys n [] ≡ get_or xs n []
    unfolding with_flagged
    flagged_row ys e h = ap (λ (zs : List (List ℤ)). get_or zs n []) e ∙ row_out _ xs n n (omega arith) h

    -- one block more
    pub flagged_next : (ys : List (List ℤ)) (row : List ℤ) → ys ≡ with_flagged n flags f xs → row ≡ build 8 (flagged_at xs n)
        → set ys n row ≡ with_flagged (n + 1) flags f xs
    unfolding with_flagged
    flagged_next ys row e q = rows_next _ xs n ys row e q

    -- a sample of the first n blocks
    pub flagged_in : (b s : ℕ) → b < n → n ≤ 16 → s < 8 → sample_at (with_flagged n flags f xs) b s ≡ flagged_at xs b s
    unfolding with_flagged
    flagged_in b s h most k =
        ap (λ (row : List ℤ). get_or row s (pos 0)) (row_in _ xs n b h most) ∙ get_or-build 8 (flagged_at xs b) s (pos 0) k

  -- of the array of the samples of n blocks
  pub flagged_array : (samples more : List (List ℤ)) → n ≤ 16
      → ((b s : ℕ) → b < n → s < 8 → flagged_at samples b s ≡ sample_at more b s)
      → with_flagged n flags f (samples_array n samples) ≡ samples_array n more
  unfolding with_flagged samples_array
  flagged_array samples more most same =
      rows_again n _ (λ b. build 8 (sample_at more b)) _ no_samples
      (λ b h _. build-ext 8 _ (sample_at more b)
      (λ s k. ap (λ (z : ℤ). if eqb (entry flags s) 1 then f b s else z) (array_holds n samples most b s h k) ∙ same b s h k))
