-- For code that goes block by block: one block more at the end of an analysis and of a synthesis, and what a call for one channel asks.
-- Assumes nothing.
use Prim.Native.Nat.{ℕ, zero, suc, ◌+◌, ◌*◌, ◌≤◌, ◌<◌}
use mathlib.Core.Path.{◌≡◌, refl, sym, ap, ◌∙◌, subst}
use mathlib.Core.Bool.{true}
use mathlib.Core.Logic.{inl, inr, ⊎_elim}
use mathlib.Core.List.{List, [], ◌∷◌, ◌++◌, append_assoc, append-nil}
use native.Mathlib.Nat.{zero-mul, suc-mul, mul-le-mul_right}
use native.Mathlib.Numerals.{add-one}
use native.Mathlib.Omega.{arith}
use lib.IntN.{ℤ}
use lib.ListN.{length, take, drop, length-append}
use lib.Seq.{drop-drop}
use Rattle.laws.specs.Lists.{total}
use Rattle.laws.proofs.Lists.{length-build}
use Rattle.sbc_parameters.specs.declared.SbcParameters.{SbcParameters}
use Rattle.sbc_parameters.specs.Parameters.{channels, accepted}
use Rattle.sbc_parameters.specs.Sizes.{samples_per_channel, frame_samples}
use Rattle.sbc_parameters.proofs.Accepted.{subbands-cases, ranges, channels-range}
use Rattle.sbc_filterbank.specs.Subbands.{Bands}
use Rattle.sbc_filterbank.specs.Analysis.{shifted, analysis_outputs}
use Rattle.sbc_filterbank.specs.Synthesis.{synthesis_outputs}
use Rattle.sbc_filterbank.specs.declared.synthesis.Synthesis.{Synthesis}
use Rattle.sbc_frame.specs.Channels.{analyze_blocks, analysis_after, synthesized, synthesize, synthesize_blocks, synthesis_after}

module _ (S : ℕ) where
  -- ---- analysis
  -- n blocks behind the first
  next-drop : (n : ℕ) (pcm : List ℤ) → drop (n * S) (drop S pcm) ≡ drop (suc n * S) pcm
  next-drop n pcm = let e : S + n * S ≡ suc n * S = omega (arith, suc-mul n S) in drop-drop (n * S) S pcm ∙ rw e

  after-suc : (n : ℕ) (X pcm : List ℤ) → analysis_after (suc n) S X pcm ≡ shifted S (analysis_after n S X pcm) (take S (drop (n * S) pcm))
  unfolding analysis_after
  after-suc zero X pcm = rw zero-mul
  after-suc (suc n) X pcm = after-suc n (shifted S X (take S pcm)) (drop S pcm) ∙ rw next-drop

  -- one block more moves the history
  pub analysis-after-next : (n : ℕ) (X pcm : List ℤ)
      → analysis_after (n + 1) S X pcm ≡ shifted S (analysis_after n S X pcm) (take S (drop (n * S) pcm))
  analysis-after-next n X pcm = rw add-one (after-suc n X pcm)

  analyze-suc : (n : ℕ) (X pcm : List ℤ)
      → analyze_blocks (suc n) S X pcm ≡ analyze_blocks n S X pcm ++ (analysis_outputs S (analysis_after (suc n) S X pcm) ∷ [])
  unfolding analyze_blocks analysis_after
  analyze-suc zero X pcm = refl
  analyze-suc (suc n) X pcm =
      let next : List ℤ = shifted S X (take S pcm) in
      ap (λ (l : List (List ℤ)). analysis_outputs S next ∷ l) (analyze-suc n next (drop S pcm))

  -- and gives one block of subband samples
  pub analyze-next : (n : ℕ) (X pcm : List ℤ)
      → analyze_blocks (n + 1) S X pcm
      ≡ analyze_blocks n S X pcm ++ (analysis_outputs S (shifted S (analysis_after n S X pcm) (take S (drop (n * S) pcm))) ∷ [])
  analyze-next n X pcm = rw (add-one, ← after-suc) (analyze-suc n X pcm)

  -- n blocks are given
  pub length-analyze_blocks : (n : ℕ) (X pcm : List ℤ) → length (analyze_blocks n S X pcm) ≡ n
  unfolding analyze_blocks
  length-analyze_blocks zero X pcm = refl
  length-analyze_blocks (suc n) X pcm = ap suc (length-analyze_blocks n (shifted S X (take S pcm)) (drop S pcm))

  -- ---- synthesis
  -- one block more moves the history
  pub synthesis-after-next : (h : Synthesis) (ss : List (List ℤ)) (s : List ℤ)
      → synthesis_after S h (ss ++ (s ∷ [])) ≡ synthesized S (synthesis_after S h ss) s
  unfolding synthesis_after
  synthesis-after-next h [] s = refl
  synthesis-after-next h (t ∷ ss) s = synthesis-after-next (synthesized S h t) ss s

  -- and gives one block of samples
  pub synthesize-next : (h : Synthesis) (ss : List (List ℤ)) (s : List ℤ)
      → synthesize_blocks S h (ss ++ (s ∷ [])) ≡ synthesize_blocks S h ss ++ synthesize S (synthesis_after S h ss) s
  unfolding synthesize_blocks synthesis_after
  synthesize-next h [] s = append-nil (synthesize S h s)
  synthesize-next h (t ∷ ss) s =
      rw append_assoc (ap (λ (l : List ℤ). synthesize S h t ++ l) (synthesize-next (synthesized S h t) ss s))

  -- a block has S samples
  pub length-synthesize : (h : Synthesis) (s : List ℤ) → length (synthesize S h s) ≡ S
  unfolding synthesize synthesis_outputs
  length-synthesize h s = length-build S _

  -- so n blocks have n times S
  pub length-synthesize_blocks : (h : Synthesis) (ss : List (List ℤ)) → length (synthesize_blocks S h ss) ≡ length ss * S
  unfolding synthesize_blocks
  length-synthesize_blocks h [] = sym (zero-mul S)
  length-synthesize_blocks h (s ∷ ss) =
      length-append (synthesize S h s) (synthesize_blocks S (synthesized S h s) ss)
      ∙ omega (arith, length-synthesize h s, length-synthesize_blocks (synthesized S h s) ss, suc-mul (length ss) S)

-- a sum with one term more
pub total-next : (n : ℕ) (w : ℕ → ℕ) → total (n + 1) w ≡ total n w + w n
unfolding total
total-next n w = rw add-one

-- ---- calls for one channel
-- what a channel's call asks of the parameters and the room
pub asked : (p : SbcParameters) (c C n : ℕ) → accepted p ≡ true → C ≡ channels p → c < C → frame_samples p ≤ n
    → Bands p.subbands × (p.blocks ≤ 16) × (c < C) × (C ≤ 2) × (p.blocks * p.subbands * C ≤ n)
unfolding samples_per_channel frame_samples
asked p c C n a e h l = (
  subbands-cases Bands p a (inl refl) (inr refl),
  (ranges p a).blocks-high,
  h,
  omega (arith, channels-range p),
  subst (λ (k : ℕ). p.blocks * p.subbands * k ≤ n) (sym e) l,
)

-- ---- places
-- sample k of a channel stands before where its sample n stands
pub place-before : (C from k n : ℕ) → k < n → (from + k) * C + C ≤ (from + n) * C
place-before C from k n h =
    let q : suc (from + k) * C ≤ (from + n) * C = mul-le-mul_right C (omega arith) in omega (arith, suc-mul (from + k) C)

-- ---- a block
-- not 4 subbands are 8
pub eight : {S : ℕ} → Bands S → (S ≡ 4 → ⊥) → S ≡ 8
eight b ne = ⊎_elim (λ e. absurd (ne e)) (λ e. e) b
