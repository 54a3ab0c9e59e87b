-- Arrays of subband samples, 16 rows of eight: their first rows replaced, block by block; zeros that are filled subband
-- by subband; and the array of the samples of n blocks.
-- Assumes nothing.
use Prim.Native.Nat.{ℕ, ◌+◌, ◌≤◌, ◌<◌}
use mathlib.Core.Path.{◌≡◌, refl, sym, ap, ap₂, ◌∙◌}
use mathlib.Core.Logic.{◌≢◌}
use mathlib.Core.List.{List, [], ◌∷◌, ◌++◌}
use native.Mathlib.Decide.{ℕ_discrete}
use native.Mathlib.Omega.{arith}
use lib.Dec.{ltb}
use lib.ListN.{length, get_or, set, replicate, get_or-append, get_or-replicate}
use lib.Seq.{get_or_at}
use lib.IntN.{ℤ, pos}
use mir.Syntax.{w32}
use mir.Val.{SFits, to_z, of_z}
use mir.Facts.{to_z-of_z}
use borrow.Author.Tests.{lt-ltb, le-ltb, ltb-true, ltb-false}
use Rattle.std.specs.Prelude.{if◌then◌else◌}
use Rattle.laws.specs.Lists.{build}
use Rattle.laws.specs.Sums.{up_to}
use Rattle.laws.proofs.Cases.{by-test}
use Rattle.laws.proofs.Lists.{length-build, get_or-build, build-is, build-ext}
use Rattle.laws.proofs.Arrays.{build-set, fill_none}
use Rattle.sbc_frame.specs.Encoding.{sample_at}
use Rattle.sbc_frame.specs.Arrays.{with_rows, no_samples, samples_array, SamplesIn, with_subband}

-- ---- the rows of the first n blocks replaced
module _ (row : ℕ → List ℤ) (xs : List (List ℤ)) where
  -- what stands in row b
  abbrev row_at : ℕ → ℕ → List ℤ
  row_at n b = if ltb b n then row b else get_or xs b []

  -- no row yet
  pub rows_none : length xs ≡ 16 → xs ≡ with_rows 0 row xs
  unfolding with_rows
  rows_none long = sym (build-is 16 (row_at 0) xs [] long (λ b _. rw (le-ltb b 0 (omega arith))))

  -- one row more
  pub rows_next : (n : ℕ) (ys : List (List ℤ)) (r : List ℤ) → ys ≡ with_rows n row xs → r ≡ row n → set ys n r ≡ with_rows (n + 1) row xs
  unfolding with_rows
  rows_next n ys r e q =
      ap (λ (zs : List (List ℤ)). set zs n r) e
      ∙ build-set 16 (row_at n) (row_at (n + 1)) n r [] (q ∙ sym (rw (lt-ltb n (n + 1) (omega arith)))) same
    where
      same : (b : ℕ) → b ≢ n → row_at n b ≡ row_at (n + 1) b
      same b ne =
          by-test (λ z. z ≡ row_at (n + 1) b) (ltb b n) (row b) (get_or xs b [])
          (λ t. sym (rw (lt-ltb b (n + 1) (omega (arith, ltb-true b n t)))))
          (λ t. sym (rw (le-ltb b (n + 1) (omega (arith, ltb-false b n t)))))

  pub length_rows : (n : ℕ) → length (with_rows n row xs) ≡ 16
  unfolding with_rows
  length_rows n = length-build 16 (row_at n)

  -- a row that is replaced
  pub row_in : (n b : ℕ) → b < n → n ≤ 16 → get_or (with_rows n row xs) b [] ≡ row b
  unfolding with_rows
  row_in n b h m = get_or-build 16 (row_at n) b [] (omega arith) ∙ rw (lt-ltb b n h)

  -- and one that is not
  pub row_out : (n b : ℕ) → n ≤ b → b < 16 → get_or (with_rows n row xs) b [] ≡ get_or xs b []
  unfolding with_rows
  row_out n b h k = get_or-build 16 (row_at n) b [] k ∙ rw (le-ltb b n h)

-- in the end all are
pub rows_all : (row : ℕ → List ℤ) (n : ℕ) (xs ys : List (List ℤ)) → 16 ≤ n → ys ≡ with_rows n row xs → ys ≡ build 16 row
unfolding with_rows
rows_all row n xs ys h e = e ∙ build-ext 16 (row_at row xs n) row (λ b k. rw (lt-ltb b n (omega arith)))

-- the same rows, of the array and of one whose rows are replaced already
pub rows_ext : (n : ℕ) (p q : ℕ → List ℤ) (xs : List (List ℤ)) → ((b : ℕ) → b < n → p b ≡ q b) → with_rows n p xs ≡ with_rows n q xs
unfolding with_rows
rows_ext n p q xs h =
    build-ext 16 _ _
    (λ b _. by-test (λ z. z ≡ (if ltb b n then q b else get_or xs b [])) (ltb b n) (p b) (get_or xs b [])
    (λ t. let lt = ltb-true b n t in h b lt ∙ sym (rw (lt-ltb b n lt))) (λ t. sym (rw t)))

pub rows_again : (n : ℕ) (p q r : ℕ → List ℤ) (xs : List (List ℤ)) → ((b : ℕ) → b < n → b < 16 → r b ≡ q b)
    → with_rows n r (with_rows n p xs) ≡ with_rows n q xs
unfolding with_rows
rows_again n p q r xs h =
    build-ext 16 _ _
    (λ b k. by-test (λ z. z ≡ (if ltb b n then q b else get_or xs b [])) (ltb b n) (r b) (get_or (with_rows n p xs) b [])
    (λ t. let lt = ltb-true b n t in h b lt k ∙ sym (rw (lt-ltb b n lt)))
    (λ t. get_or-build 16 (λ a. if ltb a n then p a else get_or xs a []) b [] k ∙ rw t))

-- ---- the samples of one subband replaced, as the machine reads back what is stored
module _ (s : ℕ) (f : ℕ → ℤ) (xs : List (List ℤ)) where
  -- in no block yet
  pub column_none : length xs ≡ 16 → xs ≡ with_subband 0 s f xs
  unfolding with_subband
  column_none long = rows_none _ xs long

  -- in one block more
  pub column_next : (n : ℕ) (ys : List (List ℤ)) (v : ℤ) → ys ≡ with_subband n s f xs → n < 16 → SFits w32 v → v ≡ f n
      → set ys n (set (get_or ys n []) s (to_z w32 (of_z w32 v))) ≡ with_subband (n + 1) s f xs
  unfolding with_subband
  column_next n ys v e h fits q =
      rows_next _ xs n ys _ e
      (ap₂ (λ (row : List ℤ) (z : ℤ). set row s z)
      (ap (λ (zs : List (List ℤ)). get_or zs n []) e ∙ row_out _ xs n n (omega arith) h) (to_z-of_z fits ∙ q))

-- ---- zeros that are filled subband by subband
-- the samples g in the first n blocks, below subband t
unfoldable pub columns : ℕ → (ℕ → ℕ → ℤ) → ℕ → List (List ℤ)
columns n g t = with_rows n (λ b. build 8 (up_to t (g b))) no_samples

module _ (n : ℕ) (g : ℕ → ℕ → ℤ) where
  -- no subband yet
  pub columns_none : replicate 16 (replicate 8 (pos 0)) ≡ columns n g 0
  unfolding columns with_rows no_samples
  columns_none =
      sym (build-is 16 (λ b. if ltb b n then build 8 (up_to 0 (g b)) else get_or rows b []) rows [] refl
      (λ b k. by-test (λ z. z ≡ get_or rows b []) (ltb b n) (build 8 (up_to 0 (g b))) (get_or rows b [])
      (λ _. sym (fill_none 8 (g b)) ∙ sym (get_or-replicate {A = List ℤ} 16 b _ [] k)) (λ _. refl)))
    where
      rows : List (List ℤ)
      rows = replicate 16 (replicate 8 (pos 0))

  -- one sample more in a row changes no other
  column-other : (b t s : ℕ) → s ≢ t → up_to t (g b) s ≡ up_to (t + 1) (g b) s
  column-other b t s ne =
      by-test (λ z. z ≡ up_to (t + 1) (g b) s) (ltb s t) (g b s) (pos 0)
      (λ e. sym (rw (lt-ltb s (t + 1) (omega (arith, ltb-true s t e)))))
      (λ e. sym (rw (le-ltb s (t + 1) (omega (arith, ltb-false s t e)))))

  column-here : (b t : ℕ) → g b t ≡ up_to (t + 1) (g b) t
  column-here b t = sym (rw (lt-ltb t (t + 1) (omega arith)))

  -- the next subband is stored
  pub columns_store : (t : ℕ) (f : ℕ → ℤ) (xs ys : List (List ℤ)) → xs ≡ columns n g t → ((b : ℕ) → b < n → f b ≡ g b t)
      → n ≤ 16 → ys ≡ with_subband n t f xs → ys ≡ columns n g (t + 1)
  unfolding columns with_subband
  columns_store t f xs ys e same most stored =
      stored
      ∙ ap (λ (zs : List (List ℤ)). with_rows n (λ b. set (get_or zs b []) t (f b)) zs) e
      ∙ rows_again n _ (λ b. build 8 (up_to (t + 1) (g b))) _ no_samples
      (λ b h _. ap (λ (row : List ℤ). set row t (f b)) (row_in _ no_samples n b h most)
      ∙ build-set 8 (up_to t (g b)) (up_to (t + 1) (g b)) t (f b) (pos 0) (same b h ∙ column-here b t) (column-other b t))

  -- the next subband has no samples but 0
  pub columns_skip : (t : ℕ) (xs : List (List ℤ)) → xs ≡ columns n g t → ((b : ℕ) → b < n → g b t ≡ pos 0) → xs ≡ columns n g (t + 1)
  unfolding columns
  columns_skip t xs e none =
      e ∙ rows_ext n _ _ no_samples (λ b h. build-ext 8 (up_to t (g b)) (up_to (t + 1) (g b)) (λ s _. go b h s (ℕ_discrete s t)))
    where
      go : (b : ℕ) → b < n → (s : ℕ) → Dec (s ≡ t) → up_to t (g b) s ≡ up_to (t + 1) (g b) s
      go b h s (yes r) = rw (r, le-ltb t t (omega arith)) (sym (none b h) ∙ column-here b t)
      go b h s (no ne) = column-other b t s ne

  -- in the end all are stored
  pub columns_all : (t : ℕ) (xs samples : List (List ℤ)) → 8 ≤ t → xs ≡ columns n g t
      → ((b s : ℕ) → b < n → s < 8 → g b s ≡ sample_at samples b s) → xs ≡ samples_array n samples
  unfolding columns samples_array
  columns_all t xs samples h e same =
      e ∙ rows_ext n _ _ no_samples
      (λ b k. build-ext 8 (up_to t (g b)) (sample_at samples b) (λ s q. rw (lt-ltb s t (omega arith)) (same b s k q)))

-- ---- the array of the samples of n blocks
module _ (n : ℕ) (samples : List (List ℤ)) where
  -- no block yet
  pub array_none : replicate 16 (replicate 8 (pos 0)) ≡ samples_array 0 samples
  unfolding samples_array no_samples
  array_none = rows_none _ _ refl

  -- one block more: its eight samples, the row's with zeros behind them
  pub array_next : (row outputs : List ℤ) (xs : List (List ℤ)) → length samples ≡ n → outputs ≡ build 8 (λ s. get_or row s (pos 0))
      → xs ≡ samples_array n samples → set xs n outputs ≡ samples_array (n + 1) (samples ++ (row ∷ []))
  unfolding samples_array
  array_next row outputs xs long o e =
      rows_next (λ b. build 8 (sample_at more b)) no_samples n xs outputs (e ∙ rows_ext n _ _ no_samples before)
      (o ∙ ap (λ (r : List ℤ). build 8 (λ s. get_or r s (pos 0))) (sym (get_or_at samples row [] [] n long)))
    where
      more : List (List ℤ)
      more = samples ++ (row ∷ [])

      before : (b : ℕ) → b < n → build 8 (sample_at samples b) ≡ build 8 (sample_at more b)
      before b h = ap (λ (r : List ℤ). build 8 (λ s. get_or r s (pos 0))) (sym (get_or-append samples (row ∷ []) [] b (omega arith)))

  pub length_array : length (samples_array n samples) ≡ 16
  unfolding samples_array
  length_array = length_rows _ no_samples n

  -- it holds them
  pub array_holds : n ≤ 16 → SamplesIn n samples (samples_array n samples)
  unfolding samples_array
  array_holds most b s h k =
      ap (λ (row : List ℤ). get_or row s (pos 0)) (row_in _ no_samples n b h most) ∙ get_or-build 8 (sample_at samples b) s (pos 0) k
