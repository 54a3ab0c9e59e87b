-- Coding one frame: the encoder's fields fit a frame, and the decoder gives all samples of one. In dual channel a
-- channel's fields come from that channel's samples and history only, and its samples and next history from its own
-- fields and history only.
-- Assumes nothing.
use Prim.Native.Nat.{ℕ, ◌+◌, ◌*◌, ◌/◌, ◌%◌, ◌^◌, ◌≤◌, ◌<◌}
use mathlib.Core.Path.{◌≡◌, refl, sym, ap, ap₂, ◌∙◌, fun_ext}
use mathlib.Core.Bool.{Bool, true, false}
use mathlib.Core.List.{List, []}
use native.Mathlib.Omega.{arith}
use lib.Dec.{lit<, ltb}
use lib.IntN.{ℤ, pos, nat_abs}
use lib.ListN.{length, get_or}
use borrow.Author.Tests.{lt-ltb, ltb-true, ltb-false}
use Rattle.laws.specs.Lists.{build, greatest}
use Rattle.laws.proofs.Lists.{length-build, get_or-build, get_or-build-out, build-ext, build-all}
use Rattle.sbc_modes.specs.declared.SbcChannelMode.TheVariants.{DualChannel}
use Rattle.sbc_parameters.specs.declared.SbcParameters.{SbcParameters}
use Rattle.sbc_modes.specs.Modes.{channels_of, is_joint}
use Rattle.sbc_parameters.specs.Parameters.{channels}
use Rattle.sbc_parameters.specs.Sizes.{join_count, samples_per_channel, frame_samples}
use Rattle.sbc_allocation.proofs.Rows.{dual-row}
use Rattle.sbc_quantizer.specs.Quantizing.{quantize}
use Rattle.sbc_quantizer.proofs.Factors.{scale-factor-le}
use Rattle.sbc_quantizer.proofs.Limits.{quantize-lt}
use Rattle.sbc_filterbank.specs.declared.synthesis.Synthesis.{Synthesis}
use Rattle.sbc_frame.specs.Fields.{Fields, width_at, WellFormed}
use Rattle.sbc_frame.specs.Channels.{pcm_in, channel_pcm, interleave, no_analysis, analyze_blocks, analysis_after}
use Rattle.sbc_frame.specs.Channels.{no_synthesis, synthesize_blocks, synthesis_after}
use Rattle.sbc_frame.specs.Encoding.{channel_samples, sample_at, factor_of, is_joined, coded_at, coded_factors, coded_values, coded_fields}
use Rattle.sbc_frame.specs.Encoding.{encode_fields, analysis_histories}
use Rattle.sbc_frame.specs.Decoding.{reconstructed_at, decoded_at, channel_blocks, decode_fields, synthesis_histories}

-- ---- the encoder's fields fit a frame
module _ (p : SbcParameters) (samples : ℕ → List (List ℤ)) where
  abbrev factor : ℕ → ℕ → ℕ
  factor c s = factor_of p (λ b. coded_at p samples b c s)

  abbrev factor_row : ℕ → List ℕ
  factor_row c = build p.subbands (factor c)

  factor-row : (c : ℕ) → c < channels p → get_or (coded_factors p samples) c [] ≡ factor_row c
  unfolding coded_factors
  factor-row c hc = get_or-build (channels p) factor_row c [] hc

  factor-lt : (c s : ℕ) → factor c s < 16
  unfolding factor_of
  factor-lt c s = omega (arith, scale-factor-le (greatest p.blocks (λ b. nat_abs (coded_at p samples b c s))))

  factors-fit : (c s : ℕ) → get_or (get_or (coded_factors p samples) c []) s 0 < 16
  unfolding coded_factors
  factors-fit c s =
      build-all (λ (row : List ℕ). get_or row s 0 < 16) (channels p) factor_row c []
      (λ c. build-all (λ (n : ℕ). n < 16) p.subbands (factor c) s 0 (factor-lt c) (lit< tt))
      (lit< tt)

  module _ (factors : List (List ℕ)) where
    abbrev value : ℕ → ℕ → ℕ → ℕ
    value b c s = quantize (coded_at p samples b c s) (get_or (get_or factors c []) s 0) (width_at p factors c s)

    abbrev row_of_values : ℕ → ℕ → List ℕ
    row_of_values b c = build p.subbands (value b c)

    value-rows : (b : ℕ) → b < p.blocks → get_or (coded_values p samples factors) b [] ≡ build (channels p) (row_of_values b)
    unfolding coded_values
    value-rows b hb = get_or-build p.blocks (λ b. build (channels p) (row_of_values b)) b [] hb

    value_row : (b c : ℕ) → b < p.blocks → c < channels p → get_or (get_or (coded_values p samples factors) b []) c [] ≡ row_of_values b c
    value_row b c hb hc = ap (λ (l : List (List ℕ)). get_or l c []) (value-rows b hb) ∙ get_or-build (channels p) (row_of_values b) c [] hc

    value-row-out : (b c : ℕ) → p.blocks ≤ b → get_or (get_or (coded_values p samples factors) b []) c [] ≡ []
    unfolding coded_values
    value-row-out b c hb =
        ap (λ (l : List (List ℕ)). get_or l c []) (get_or-build-out p.blocks (λ b. build (channels p) (row_of_values b)) b [] hb)

    values-fit : (b c s : ℕ) → b < p.blocks → c < channels p → s < p.subbands
        → get_or (get_or (get_or (coded_values p samples factors) b []) c []) s 0 < 2 ^ width_at p factors c s
    values-fit b c s hb hc hs =
        rw (value_row b c hb hc, get_or-build p.subbands (value b c) s 0 hs)
        (quantize-lt (coded_at p samples b c s) (get_or (get_or factors c []) s 0) (width_at p factors c s))

  -- what is coded of any samples is well formed
  pub coded-fits : WellFormed p (coded_fields p samples)
  unfolding coded_fields coded_factors coded_values
  coded-fits =
      let factors : List (List ℕ) = coded_factors p samples in
      record {
        joins = length-build (join_count p) (is_joined p samples);
        factor_channels = length-build (channels p) factor_row;
        factor_subbands = λ c hc. ap length (factor-row c hc) ∙ length-build p.subbands (factor c);
        factor_fits = factors-fit;
        value_blocks = length-build p.blocks (λ b. build (channels p) (row_of_values factors b));
        value_channels = λ b hb. ap length (value-rows factors b hb) ∙ length-build (channels p) (row_of_values factors b);
        value_subbands = λ b c hb hc. ap length (value_row factors b c hb hc) ∙ length-build p.subbands (value factors b c);
        value_fits = values-fit factors;
      }

-- so is what is encoded of any PCM
pub encode-fits : (p : SbcParameters) (histories : List (List ℤ)) (pcm : List ℤ) → WellFormed p (encode_fields p histories pcm)
unfolding encode_fields
encode-fits p histories pcm = coded-fits p (channel_samples p histories pcm)

-- ---- lengths
-- a decoded frame has its samples
pub length-decoded : (p : SbcParameters) (histories : List Synthesis) (f : Fields) → length (decode_fields p histories f) ≡ frame_samples p
unfolding decode_fields interleave
length-decoded p histories f = length-build (frame_samples p) _

-- ---- without joint stereo
module _ (p : SbcParameters) (plain : is_joint p.channel_mode ≡ false) (samples : ℕ → List (List ℤ)) where
  -- no subband is joined
  pub none-joined : (s : ℕ) → is_joined p samples s ≡ false
  unfolding is_joined
  none-joined s = rw plain

  -- and each sample is coded as it is
  pub coded-alone : (b c s : ℕ) → coded_at p samples b c s ≡ sample_at (samples c) b s
  unfolding coded_at
  coded-alone b c s = rw (none-joined s)

-- ---- dual channel
-- two frames' fields are the same in channel c
pub record SameFields (c : ℕ) (f g : Fields) : Type 0 where
  pub factors : get_or f.factors c [] ≡ get_or g.factors c []
  pub values : (b : ℕ) → get_or (get_or f.values b []) c [] ≡ get_or (get_or g.values b []) c []

-- two lists are the same at every place of channel c
abbrev pub SameAt : ℕ → List ℤ → List ℤ → Type 0
SameAt c xs ys = (i : ℕ) → i % 2 ≡ c → get_or xs i (pos 0) ≡ get_or ys i (pos 0)

module _ (p : SbcParameters) (dual : p.channel_mode ≡ DualChannel) where
  -- there are two channels
  pub two-channels : channels p ≡ 2
  two-channels = ap channels_of dual

  unjoined : is_joint p.channel_mode ≡ false
  unjoined = ap is_joint dual

  -- and no join flags
  pub no-flags : join_count p ≡ 0
  unfolding join_count
  no-flags = rw unjoined

  width_same : (c s : ℕ) (fs gs : List (List ℕ)) → get_or fs c [] ≡ get_or gs c [] → width_at p fs c s ≡ width_at p gs c s
  unfolding width_at
  width_same c s fs gs e = ap (λ (row : List ℕ). get_or row s 0) (dual-row p fs gs dual c e)

  module _ (c : ℕ) (hc : c < 2) where
    own : c < channels p
    own = omega (arith, two-channels)

    -- ---- encoding
    module _ (x y : ℕ → List (List ℤ)) (e : x c ≡ y c) where
      at_same : (b s : ℕ) → coded_at p x b c s ≡ coded_at p y b c s
      at_same b s = coded-alone p unjoined x b c s ∙ ap (λ (z : List (List ℤ)). sample_at z b s) e ∙ sym (coded-alone p unjoined y b c s)

      factors-same : get_or (coded_factors p x) c [] ≡ get_or (coded_factors p y) c []
      factors-same =
          factor-row p x c own
          ∙ build-ext p.subbands (factor p x c) (factor p y c) (λ s _. ap (factor_of p) (fun_ext (λ b. at_same b s)))
          ∙ sym (factor-row p y c own)

      values_same : (fs gs : List (List ℕ)) → get_or fs c [] ≡ get_or gs c [] → (b : ℕ)
          → get_or (get_or (coded_values p x fs) b []) c [] ≡ get_or (get_or (coded_values p y gs) b []) c []
      values_same fs gs q b = go (ltb b p.blocks) refl
        where
          go : (t : Bool) → ltb b p.blocks ≡ t
              → get_or (get_or (coded_values p x fs) b []) c [] ≡ get_or (get_or (coded_values p y gs) b []) c []
          go true h =
              let hb : b < p.blocks = ltb-true b p.blocks h in
              value_row p x fs b c hb own
              ∙ build-ext p.subbands (value p x fs b c) (value p y gs b c) (λ s _. cc (at_same b s, q, width_same c s fs gs q))
              ∙ sym (value_row p y gs b c hb own)
          go false h =
              let hb : p.blocks ≤ b = ltb-false b p.blocks h in
              value-row-out p x fs b c hb ∙ sym (value-row-out p y gs b c hb)

      coded-same : SameFields c (coded_fields p x) (coded_fields p y)
      unfolding coded_fields
      coded-same = record { factors = factors-same; values = values_same (coded_factors p x) (coded_factors p y) factors-same }

    analysis-alone : (hs : List (List ℤ)) (pcm : List ℤ) → get_or (analysis_histories p hs pcm) c no_analysis
        ≡ analysis_after p.blocks p.subbands (get_or hs c no_analysis) (channel_pcm p pcm c)
    unfolding analysis_histories
    analysis-alone hs pcm = get_or-build 2 _ c no_analysis hc ∙ rw (lt-ltb c (channels p) own)

    module _ (h₁ h₂ : List (List ℤ)) (xs ys : List ℤ) (e : get_or h₁ c no_analysis ≡ get_or h₂ c no_analysis) (same : SameAt c xs ys) where
      pcm-same : channel_pcm p xs c ≡ channel_pcm p ys c
      unfolding channel_pcm pcm_in
      pcm-same = build-ext (samples_per_channel p) _ _ (λ i _. same (i * channels p + c) (rw two-channels (omega arith)))

      -- equal histories and samples of a channel give equal fields of it
      pub fields-same : SameFields c (encode_fields p h₁ xs) (encode_fields p h₂ ys)
      unfolding encode_fields channel_samples
      fields-same =
          coded-same (channel_samples p h₁ xs) (channel_samples p h₂ ys) (ap₂ (analyze_blocks p.blocks p.subbands) e pcm-same)

      -- and equal next histories
      pub analysis-same : get_or (analysis_histories p h₁ xs) c no_analysis ≡ get_or (analysis_histories p h₂ ys) c no_analysis
      analysis-same = analysis-alone h₁ xs ∙ ap₂ (analysis_after p.blocks p.subbands) e pcm-same ∙ sym (analysis-alone h₂ ys)

    -- ---- decoding
    decoded-alone : (f : Fields) (b s : ℕ) → f.join ≡ [] → decoded_at p f b c s ≡ reconstructed_at p f b c s
    unfolding decoded_at
    decoded-alone f b s e = rw e

    synthesis-alone : (hs : List Synthesis) (f : Fields) → get_or (synthesis_histories p hs f) c no_synthesis
        ≡ synthesis_after p.subbands (get_or hs c no_synthesis) (channel_blocks p f c)
    unfolding synthesis_histories
    synthesis-alone hs f = get_or-build 2 _ c no_synthesis hc ∙ rw (lt-ltb c (channels p) own)

    place-alone : (channel : ℕ → List ℤ) (i : ℕ) → i < frame_samples p → i % 2 ≡ c
        → get_or (interleave p channel) i (pos 0) ≡ get_or (channel c) (i / 2) (pos 0)
    unfolding interleave
    place-alone channel i hi e = get_or-build (frame_samples p) _ i (pos 0) hi ∙ rw (two-channels, e)

    module _ (h₁ h₂ : List Synthesis) (f g : Fields) (jf : f.join ≡ []) (jg : g.join ≡ [])
        (e : get_or h₁ c no_synthesis ≡ get_or h₂ c no_synthesis) (same : SameFields c f g) where
      reconstructed-same : (b s : ℕ) → reconstructed_at p f b c s ≡ reconstructed_at p g b c s
      unfolding reconstructed_at
      reconstructed-same b s = cc (same.factors, same.values b, width_same c s f.factors g.factors same.factors)

      blocks-same : channel_blocks p f c ≡ channel_blocks p g c
      unfolding channel_blocks
      blocks-same =
          build-ext p.blocks _ _
          (λ b _. build-ext p.subbands _ _
          (λ s _. decoded-alone f b s jf ∙ reconstructed-same b s ∙ sym (decoded-alone g b s jg)))

      -- equal histories and fields of a channel give equal next histories of it
      pub synthesis-same : get_or (synthesis_histories p h₁ f) c no_synthesis ≡ get_or (synthesis_histories p h₂ g) c no_synthesis
      synthesis-same = synthesis-alone h₁ f ∙ ap₂ (synthesis_after p.subbands) e blocks-same ∙ sym (synthesis-alone h₂ g)

      -- and equal samples
      pub output-same : (i : ℕ) → i < frame_samples p → i % 2 ≡ c
          → get_or (decode_fields p h₁ f) i (pos 0) ≡ get_or (decode_fields p h₂ g) i (pos 0)
      unfolding decode_fields
      output-same i hi o =
          place-alone _ i hi o
          ∙ ap (λ (l : List ℤ). get_or l (i / 2) (pos 0)) (ap₂ (synthesize_blocks p.subbands) e blocks-same)
          ∙ sym (place-alone _ i hi o)
