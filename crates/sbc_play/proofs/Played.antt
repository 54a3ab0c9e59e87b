-- A block of subband samples played from an array of eight; one block more of a channel: the history after it, and its samples in their
-- places behind those of the blocks before it; and the channels of a frame.
-- Assumes nothing.
use Prim.Native.Nat.{ℕ, zero, suc, ◌+◌, ◌*◌, ◌^◌, ◌<◌}
use mathlib.Core.Path.{◌≡◌, refl, sym, ap, ap₂, ◌∙◌}
use mathlib.Core.Logic.{inl, inr}
use mathlib.Core.List.{List, [], ◌∷◌, ◌++◌}
use native.Mathlib.Nat.{not-suc-le-zero, le_of_suc-le-suc, zero-mul, suc-mul}
use native.Mathlib.Numerals.{add-one}
use native.Mathlib.Omega.{arith}
use lib.ListN.{length, get_or, set, get_or-append}
use lib.Seq.{get_or-append-add}
use lib.IntN.{ℤ, pos, ◌*ℤ◌}
use mir.Syntax.{w32}
use Rattle.laws.specs.Integers.{floor_div, clamp_z}
use Rattle.laws.specs.Lists.{collect, build}
use Rattle.laws.proofs.Lists.{length-build, get_or-build, build-ext}
use Rattle.laws.proofs.Sums.{sum_z-ext}
use Rattle.sbc_parameters.specs.declared.SbcParameters.{SbcParameters}
use Rattle.sbc_parameters.specs.declared.accepted_set.AcceptedSet.{AcceptedSet}
use Rattle.sbc_parameters.specs.Parameters.{channels}
use Rattle.sbc_parameters.proofs.Accepted.{subbands-cases}
use Rattle.sbc_parameters.specs.Sizes.{samples_per_channel}
use Rattle.sbc_filterbank.specs.Subbands.{Bands, padded}
use Rattle.sbc_filterbank.specs.Synthesis.{synthesis_cosine, modulated_at, modulated, synthesis_outputs}
use Rattle.sbc_filterbank.specs.Ring.{ring, next_slot, ring_pushed}
use Rattle.sbc_filterbank.specs.declared.synthesis.Synthesis.{Synthesis}
use Rattle.sbc_filterbank.proofs.Bands.{padded-at}
use Rattle.sbc_filterbank.proofs.Lengths.{length-ring-pushed}
use Rattle.sbc_filterbank.proofs.ByChannel.{replaced, length-replaced, not-replaced, next_replaced}
use Rattle.sbc_filterbank.proofs.Ring.{outputs-push}
use Rattle.sbc_frame.specs.Channels.{no_synthesis, synthesized, synthesize, synthesize_blocks, synthesis_after}
use Rattle.sbc_frame.specs.declared.blocks.Blocks.{Blocks}
use Rattle.sbc_frame.specs.Encoding.{sample_at}
use Rattle.sbc_frame.proofs.ByBlock.{eight, synthesis-after-next, synthesize-next, length-synthesize_blocks}
use Rattle.sbc_play.specs.Playing.{blocks_in, channel_in, placed, histories_after}
use Rattle.sbc_play.proofs.Weaving.{placed-none, placed-ext, placed-behind, woven}

-- the vector of a block of S samples reads no more than the first S of a row
modulated-first : (S : ℕ) (row : List ℤ) → modulated S row ≡ modulated S (build S (λ s. get_or row s (pos 0)))
unfolding modulated modulated_at
modulated-first S row =
    build-ext (2 * S) _ _
    (λ r h. ap (λ (z : ℤ). clamp_z w32 (floor_div z (2 ^ 30)))
    (sum_z-ext S _ _
    (λ i lt. ap (λ (z : ℤ). synthesis_cosine S r i *ℤ z) (sym (get_or-build S (λ s. get_or row s (pos 0)) i (pos 0) lt)))))

-- the history after a block, and its samples in their places, from what the code's steps give
module _ {S : ℕ} (C c b : ℕ) (h new : Synthesis) (row pcm before after : List ℤ) (bands : Bands S)
    (l : length new.values ≡ 160) (v : new.values ≡ ring_pushed S (modulated S row) h.values h.newest)
    (w : new.newest ≡ next_slot h.newest) (o : pcm ≡ padded (synthesis_outputs S (ring S new.values new.newest)))
    (a : after ≡ placed C c (b * S) S (λ j. get_or pcm j (pos 0)) before) where
  abbrev row_block : List ℤ
  row_block = build S (λ s. get_or row s (pos 0))

  values-are : new.values ≡ ring_pushed S (modulated S row_block) h.values h.newest
  values-are = v ∙ ap (λ (m : List ℤ). ring_pushed S m h.values h.newest) (modulated-first S row)

  history-is : new ≡ synthesized S h row_block
  unfolding synthesized
  history-is = λ k. record { values = values-are k; newest = w k }

  samples-are : (j : ℕ) → get_or pcm j (pos 0) ≡ get_or (synthesize S h row_block) j (pos 0)
  unfolding synthesize
  samples-are j =
      ap (λ (z : List ℤ). get_or z j (pos 0)) o ∙ padded-at _ j
      ∙ ap (λ (z : List ℤ). get_or z j (pos 0))
      (ap₂ (λ (z : List ℤ) (n : ℕ). synthesis_outputs S (ring S z n)) values-are w ∙ outputs-push row_block h.values h.newest bands
      (sym (length-ring-pushed S (modulated S row) h.values h.newest) ∙ ap length (sym v) ∙ l))

  pub block-played : (new ≡ synthesized S h row_block)
      × (after ≡ placed C c (b * S) S (λ j. get_or (synthesize S h row_block) j (pos 0)) before)
  block-played = (history-is, a ∙ placed-ext C c (b * S) S _ _ before (λ j lt. samples-are j))

-- ---- the blocks of a channel
module _ (S : ℕ) (h : Synthesis) (xs : List (List ℤ)) where
  blocks-next : (n : ℕ) → blocks_in (n + 1) S xs ≡ blocks_in n S xs ++ (build S (sample_at xs n) ∷ [])
  unfolding blocks_in build collect
  blocks-next n = rw add-one

  -- the samples of n blocks
  abbrev pub pcm_of : ℕ → ℕ → ℤ
  pcm_of n j = get_or (synthesize_blocks S h (blocks_in n S xs)) j (pos 0)

  length-pcm : (n : ℕ) → length (synthesize_blocks S h (blocks_in n S xs)) ≡ n * S
  unfolding blocks_in
  length-pcm n = length-synthesize_blocks S h (blocks_in n S xs) ∙ ap (λ (k : ℕ). k * S) (length-build n _)

  -- no block yet
  pub after_none : h ≡ synthesis_after S h (blocks_in 0 S xs)
  unfolding synthesis_after blocks_in build collect
  after_none = refl

  pub pcm-none : (C c : ℕ) (output : List ℤ) → output ≡ placed C c 0 (0 * S) (pcm_of 0) output
  pcm-none C c output = rw zero-mul (placed-none C c 0 (pcm_of 0) output)

  module _ (n : ℕ) (old : Synthesis) (e : old ≡ synthesis_after S h (blocks_in n S xs)) where
    abbrev block : List ℤ
    block = build S (sample_at xs n)

    -- the history after one block more
    pub after_next : (new : Synthesis) → new ≡ synthesized S old block → new ≡ synthesis_after S h (blocks_in (n + 1) S xs)
    after_next new v =
        v ∙ ap (λ (g : Synthesis). synthesized S g block) e
        ∙ sym (ap (synthesis_after S h) (blocks-next n) ∙ synthesis-after-next S h (blocks_in n S xs) block)

    -- its samples stand behind those of the n blocks
    joined : synthesize_blocks S h (blocks_in (n + 1) S xs) ≡ synthesize_blocks S h (blocks_in n S xs) ++ synthesize S old block
    joined =
        ap (synthesize_blocks S h) (blocks-next n) ∙ synthesize-next S h (blocks_in n S xs) block
        ∙ ap (λ (g : Synthesis). synthesize_blocks S h (blocks_in n S xs) ++ synthesize S g block) (sym e)

    first-pcm : (k : ℕ) → k < n * S → pcm_of n k ≡ pcm_of (n + 1) k
    first-pcm k lt =
        sym (ap (λ (z : List ℤ). get_or z k (pos 0)) joined
        ∙ get_or-append (synthesize_blocks S h (blocks_in n S xs)) (synthesize S old block) (pos 0) k (omega (arith, length-pcm n)))

    next-pcm : (k : ℕ) → get_or (synthesize S old block) k (pos 0) ≡ pcm_of (n + 1) (n * S + k)
    next-pcm k =
        sym (ap (λ (z : List ℤ). get_or z (n * S + k) (pos 0)) joined
        ∙ ap (λ (m : ℕ). get_or (synthesize_blocks S h (blocks_in n S xs) ++ synthesize S old block) (m + k) (pos 0)) (sym (length-pcm n))
        ∙ get_or-append-add (synthesize_blocks S h (blocks_in n S xs)) (synthesize S old block) k (pos 0))

    pub pcm-next : (C c : ℕ) (output now next : List ℤ) → now ≡ placed C c 0 (n * S) (pcm_of n) output
        → next ≡ placed C c (n * S) S (λ j. get_or (synthesize S old block) j (pos 0)) now
        → next ≡ placed C c 0 ((n + 1) * S) (pcm_of (n + 1)) output
    pcm-next C c output now next p q =
        let more : n * S + S ≡ (n + 1) * S = rw add-one (omega (arith, suc-mul n S)) in
        q
        ∙ ap (placed C c (n * S) S (λ j. get_or (synthesize S old block) j (pos 0)))
        (p ∙ placed-ext C c 0 (n * S) (pcm_of n) (pcm_of (n + 1)) output first-pcm)
        ∙ placed-behind C c (n * S) S (pcm_of (n + 1)) _ output (λ k lt. next-pcm k)
        ∙ ap (λ (m : ℕ). placed C c 0 m (pcm_of (n + 1)) output) more

-- ---- the channels of a frame
-- a set that does not have 4 subbands has 8
pub eight-bands : (q : AcceptedSet) → (q.set.subbands ≡ 4 → ⊥) → q.set.subbands ≡ 8
eight-bands q = eight (subbands-cases Bands q.set q.is_accepted (inl refl) (inr refl))

-- what stands for a missing element does not matter where there is one
get_d_any : {A : Type 0} (l : List A) (i : ℕ) (d e : A) → i < length l → get_or l i d ≡ get_or l i e
get_d_any [] i d e h = absurd (not-suc-le-zero h)
get_d_any (x ∷ l) zero d e h = refl
get_d_any (x ∷ l) (suc i) d e h = get_d_any l i d e (le_of_suc-le-suc h)

module _ (p : SbcParameters) (histories : List Synthesis) (samples : List Blocks) where
  -- a channel's history after the frame, and its PCM
  abbrev pub after_of : ℕ → Synthesis
  after_of c = synthesis_after p.subbands (get_or histories c no_synthesis) (channel_in p samples c)

  abbrev pub channel_of : ℕ → List ℤ
  channel_of c = synthesize_blocks p.subbands (get_or histories c no_synthesis) (channel_in p samples c)

  module _ (n : ℕ) (hs : List Synthesis) (d : Synthesis) (e : hs ≡ replaced after_of no_synthesis histories n) (there : n < 2) where
    -- the next channel's history is as it was
    history-there : get_or hs n d ≡ get_or histories n no_synthesis
    history-there =
        get_d_any hs n d no_synthesis (omega (arith, ap length e, length-replaced after_of no_synthesis histories n))
        ∙ ap (λ (l : List Synthesis). get_or l n no_synthesis) e ∙ not-replaced after_of no_synthesis histories n there

    -- and is moved
    pub history-played : (new : Synthesis) → new ≡ synthesis_after p.subbands (get_or hs n d) (channel_in p samples n)
        → set hs n new ≡ replaced after_of no_synthesis histories (n + 1)
    history-played new q =
        next_replaced after_of no_synthesis histories n hs new e
        (q ∙ ap (λ (h : Synthesis). synthesis_after p.subbands h (channel_in p samples n)) history-there)

    -- and its PCM is put in
    pub channel-woven : (C : ℕ) (xs now next : List ℤ) → now ≡ woven C (samples_per_channel p) channel_of xs n
        → next
        ≡ placed C n 0 (p.blocks * p.subbands)
        (λ j. get_or (synthesize_blocks p.subbands (get_or hs n d) (channel_in p samples n)) j (pos 0)) now
        → next ≡ woven C (samples_per_channel p) channel_of xs (n + 1)
    unfolding woven samples_per_channel
    channel-woven C xs now next w r =
        rw add-one
        (r
        ∙ ap₂ (λ (h : Synthesis) (zs : List ℤ).
        placed C n 0 (p.blocks * p.subbands) (λ j. get_or (synthesize_blocks p.subbands h (channel_in p samples n)) j (pos 0)) zs)
        history-there w)

  -- in the end all histories are
  pub all-played : (n : ℕ) (hs : List Synthesis) → n ≡ channels p → hs ≡ replaced after_of no_synthesis histories n
      → hs ≡ histories_after p histories samples
  unfolding replaced histories_after
  all-played n hs q e = e ∙ ap (replaced after_of no_synthesis histories) q
