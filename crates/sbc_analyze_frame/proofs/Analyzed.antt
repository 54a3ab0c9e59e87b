-- A block of a channel's PCM analyzed from an array of eight; one block more of a channel: the history after it, and its subband samples in
-- their row behind those of the blocks before it.
-- Assumes nothing.
use Prim.Native.Nat.{ℕ, suc, ◌+◌, ◌*◌, ◌-◌, ◌≤◌, ◌<◌}
use mathlib.Core.Path.{◌≡◌, refl, sym, ap, ◌∙◌}
use mathlib.Core.Bool.{Bool, true, false}
use mathlib.Core.List.{List, [], ◌∷◌, ◌++◌}
use native.Mathlib.Nat.{suc-mul, mul-le-mul_right}
use native.Mathlib.Omega.{arith}
use lib.Dec.{ltb}
use lib.ListN.{length, get_or, set, take, drop}
use lib.Seq.{get_or-take, get_or-drop}
use lib.IntN.{ℤ, pos}
use borrow.Author.Tests.{ltb-true}
use Rattle.laws.specs.Lists.{build}
use Rattle.laws.specs.Sums.{up_to}
use Rattle.laws.proofs.Lists.{get_or-build, build-is, build-ext}
use Rattle.laws.proofs.Arrays.{get_or-filled}
use Rattle.sbc_filterbank.specs.Subbands.{Bands, padded}
use Rattle.sbc_filterbank.specs.Analysis.{shifted_at, shifted, analysis_outputs}
use Rattle.sbc_filterbank.proofs.Bands.{bands-le, length-padded, padded-at}
use Rattle.sbc_filterbank.proofs.Lengths.{length-analysis}
use Rattle.sbc_frame.specs.Channels.{pcm_in, analyze_blocks, analysis_after}
use Rattle.sbc_frame.specs.Arrays.{samples_array}
use Rattle.sbc_frame.proofs.Columns.{array_next}
use Rattle.sbc_frame.proofs.ByBlock.{analysis-after-next, analyze-next, length-analyze_blocks}

-- ---- a block
-- a history takes in the first S samples alone
shifted-first : (S : ℕ) (X xs ys : List ℤ) → ((j : ℕ) → j < S → get_or xs j (pos 0) ≡ get_or ys j (pos 0)) → shifted S X xs ≡ shifted S X ys
unfolding shifted
shifted-first S X xs ys h = build-ext (length X) (shifted_at S X xs) (shifted_at S X ys) (λ k _. go k (ltb k S) refl)
  where
    go : (k : ℕ) (t : Bool) → ltb k S ≡ t → shifted_at S X xs k ≡ shifted_at S X ys k
    go k true e = rw e (h (S - 1 - k) (omega (arith, ltb-true k S e)))
    go k false e = rw e

-- the history after a block
pub entered : {S : ℕ} (C c b : ℕ) (X input pcm after : List ℤ) → Bands S
    → pcm ≡ build 8 (up_to S (λ j. get_or input ((b * S + j) * C + c) (pos 0))) → after ≡ shifted S X pcm
    → after ≡ shifted S X (build S (λ j. get_or input ((b * S + j) * C + c) (pos 0)))
entered {S} C c b X input pcm after bands i h =
    h
    ∙ shifted-first S X _ _
    (λ j lt. get_or-filled 8 S (λ k. get_or input ((b * S + k) * C + c) (pos 0)) pcm j i lt (bands-le bands)
    ∙ sym (get_or-build S _ j (pos 0) lt))

-- a list in an array of eight, by its entries
padded-row : (xs : List ℤ) → length xs ≤ 8 → padded xs ≡ build 8 (λ s. get_or xs s (pos 0))
padded-row xs h = sym (build-is 8 (λ s. get_or xs s (pos 0)) (padded xs) (pos 0) (length-padded xs h) (λ s _. sym (padded-at xs s)))

-- ---- the blocks of a channel
-- no block yet
pub analysis-none : (S : ℕ) (X pcm : List ℤ) → X ≡ analysis_after 0 S X pcm
unfolding analysis_after
analysis-none S X pcm = refl

module _ (S C c n b : ℕ) (X input old new : List ℤ) (less : b < n) (e : old ≡ analysis_after b S X (pcm_in C c (n * S) input))
    (q : new ≡ shifted S old (build S (λ j. get_or input ((b * S + j) * C + c) (pos 0)))) where
  abbrev PCM : List ℤ
  PCM = pcm_in C c (n * S) input

  -- block b of the channel's samples
  block-pcm : (j : ℕ) → j < S → get_or (take S (drop (b * S) PCM)) j (pos 0) ≡ get_or input ((b * S + j) * C + c) (pos 0)
  unfolding pcm_in
  block-pcm j lt =
      let room : suc b * S ≤ n * S = mul-le-mul_right S less in
      get_or-take S (drop (b * S) PCM) j (pos 0) lt ∙ get_or-drop (b * S) PCM j (pos 0)
      ∙ get_or-build (n * S) _ (b * S + j) (pos 0) (omega (arith, suc-mul b S))

  new_is : new ≡ shifted S (analysis_after b S X PCM) (take S (drop (b * S) PCM))
  new_is =
      q ∙ ap (λ (l : List ℤ). shifted S l (build S (λ j. get_or input ((b * S + j) * C + c) (pos 0)))) e
      ∙ shifted-first S _ _ _ (λ j lt. get_or-build S _ j (pos 0) lt ∙ sym (block-pcm j lt))

  -- the history after one block more
  pub analysis-next : new ≡ analysis_after (b + 1) S X PCM
  analysis-next = new_is ∙ sym (analysis-after-next S b X PCM)

  -- its samples stand in a row behind those of the blocks before it
  pub array-next : Bands S → (outputs : List ℤ) (xs : List (List ℤ)) → outputs ≡ padded (analysis_outputs S new)
      → xs ≡ samples_array b (analyze_blocks b S X PCM) → set xs b outputs ≡ samples_array (b + 1) (analyze_blocks (b + 1) S X PCM)
  array-next bands outputs xs o h =
      array_next b (analyze_blocks b S X PCM) (analysis_outputs S new) outputs xs (length-analyze_blocks S b X PCM)
      (o ∙ padded-row (analysis_outputs S new) (omega (arith, length-analysis S new, bands-le bands))) h
      ∙ sym (ap (samples_array (b + 1))
      (analyze-next S b X PCM ∙ ap (λ (l : List ℤ). analyze_blocks b S X PCM ++ (analysis_outputs S l ∷ [])) (sym new_is)))
