-- The joined samples of both channels, block by block: no block yet, one more, and all.
-- Assumes nothing.
use Prim.Native.Nat.{ℕ, zero, suc, ◌+◌, ◌≤◌, ◌<◌}
use mathlib.Core.Path.{◌≡◌, refl, ap, ap₂, ◌∙◌}
use mathlib.Core.List.{List, [], ◌∷◌}
use native.Mathlib.Omega.{arith}
use lib.ListN.{get_or, set, replicate}
use lib.IntN.{ℤ, pos}
use Rattle.sbc_frame.specs.declared.blocks.Blocks.{Blocks}
use Rattle.sbc_frame.specs.Encoding.{joined_at}
use Rattle.sbc_frame.specs.Arrays.{rows_of, no_samples, with_rows}
use Rattle.sbc_frame.proofs.Columns.{rows_none, rows_next, rows_all}
use Rattle.sbc_join.specs.Joining.{half_sums, half_differences, joined_samples}

module _ (left right : List (List ℤ)) where
  -- a block's sums and differences
  abbrev sums : ℕ → List ℤ
  sums b = half_sums (get_or left b []) (get_or right b [])

  abbrev differences : ℕ → List ℤ
  differences b = half_differences (get_or left b []) (get_or right b [])

  -- n blocks are joined
  unfoldable pub joined_to : ℕ → List Blocks
  joined_to n = record { rows = with_rows n sums no_samples } ∷ record { rows = with_rows n differences no_samples } ∷ []

  pub joined_none : replicate 2 (record { rows = replicate 16 (replicate 8 (pos 0)) }) ≡ joined_to 0
  unfolding joined_to no_samples
  joined_none =
      ap₂ (λ (l r : List (List ℤ)). record { rows = l } ∷ record { rows = r } ∷ []) (rows_none sums _ refl) (rows_none differences _ refl)

  pub joined_next : (n : ℕ) (xs : List Blocks) (l r : List ℤ) → xs ≡ joined_to n → l ≡ sums n → r ≡ differences n
      → let ys = set xs 0 (record { rows = set (rows_of xs 0) n l }) in
      set ys 1 (record { rows = set (rows_of ys 1) n r }) ≡ joined_to (n + 1)
  unfolding joined_to
  joined_next n xs l r e p q =
      rw e
      (ap₂ (λ (l r : List (List ℤ)). record { rows = l } ∷ record { rows = r } ∷ [])
      (rows_next sums no_samples n _ l refl p) (rows_next differences no_samples n _ r refl q))

pub joined_all : (samples xs : List Blocks) (n : ℕ) → 16 ≤ n → xs ≡ joined_to (rows_of samples 0) (rows_of samples 1) n
    → (c : ℕ) → c < 2 → rows_of xs c ≡ joined_samples (rows_of samples) c
unfolding joined_to joined_samples joined_at half_sums half_differences
joined_all samples xs n h e zero k = ap (λ (ys : List Blocks). rows_of ys 0) e ∙ rows_all _ n no_samples _ h refl
joined_all samples xs n h e (suc zero) k = ap (λ (ys : List Blocks). rows_of ys 1) e ∙ rows_all _ n no_samples _ h refl
joined_all samples xs n h e (suc (suc c)) k = absurd (omega arith)
