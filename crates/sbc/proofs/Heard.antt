-- Two decode calls in dual channel, on pieces of streams that are the same in one channel: they return the same, write the same at the places of
-- that channel, and leave decoders that are the same in it.
-- Assumes nothing.
use Prim.Native.Nat.{ℕ, ◌+◌, ◌-◌, ◌*◌, ◌%◌, ◌≤◌, ◌<◌}
use mathlib.Core.Path.{◌≡◌, refl, sym, ap, ap₂, ◌∙◌}
use mathlib.Core.Bool.{Bool, true, false}
use mathlib.Core.List.{List, [], ◌++◌}
use native.Mathlib.Omega.{arith}
use lib.Dec.{ltb}
use lib.IntN.{ℤ, pos}
use lib.ListN.{length, get_or, take, get_or-append}
use lib.Seq.{get_or-append-add}
use borrow.Author.Tests.{ltb-true, ltb-false}
use Rattle.std.specs.Prelude.{if◌then◌else◌}
use Rattle.sbc_parameters.specs.declared.SbcParameters.{SbcParameters}
use Rattle.sbc_modes.specs.declared.SbcChannelMode.TheVariants.{DualChannel}
use Rattle.sbc_parameters.specs.Parameters.{accepted}
use Rattle.sbc_parameters.specs.Sizes.{frame_length, frame_samples}
use Rattle.sbc_frame.specs.Fields.{Fields, WellFormed}
use Rattle.sbc_frame.specs.Channels.{no_synthesis}
use Rattle.sbc_frame.specs.Decoding.{decode_fields}
use Rattle.sbc_frame.proofs.Coding.{SameFields, SameAt, no-flags, length-decoded, synthesis-same, output-same}
use Rattle.codec.specs.Answers.{progress_of, whole_frames}
use Rattle.sbc_encoder.specs.Encode.{pack_all}
use Rattle.sbc_decoder.specs.Decode.{cleared, with_parameters, with_synthesis, with_skip, finish, with_finishing, same_subbands, start_histories, next_decoder}
use Rattle.sbc_decoder.specs.Decode.{answer_of, Decoded, decode}
use Rattle.sbc.specs.TwoLanguages.{SamePlaces}
use Rattle.sbc_decoder.specs.declared.SbcDecoder.{SbcDecoder}
use Rattle.laws.proofs.Lists.{nil-of-length}
use Rattle.sbc.proofs.Streams.{SameFrames, no_frames, one-frame, same-take, same_length, fit-left, fit-right, pieces-length}
use Rattle.sbc.proofs.Encoded.{frame-even}
use Rattle.sbc.proofs.Played.{decoder_after, samples_of, ending_for, played, still-unskipped, decode-played, piece-frames, length-first}

-- ---- two decoders
-- the same in all but the other channel's history, with nothing to skip
pub record SameDecoder (c : ℕ) (d₁ d₂ : SbcDecoder) : Type 0 where
  pub parameters : d₁.parameters ≡ d₂.parameters
  pub finishing : d₁.finishing ≡ d₂.finishing
  pub skip₁ : d₁.skip ≡ 0
  pub skip₂ : d₂.skip ≡ 0
  pub history : get_or d₁.synthesis c no_synthesis ≡ get_or d₂.synthesis c no_synthesis

-- also when finishing is set
pub finish-same : (c : ℕ) (d₁ d₂ : SbcDecoder) → SameDecoder c d₁ d₂ → SameDecoder c (finish d₁) (finish d₂)
unfolding finish with_finishing
finish-same c d₁ d₂ s =
    record { parameters = s.parameters; finishing = refl; skip₁ = s.skip₁; skip₂ = s.skip₂; history = s.history }

starts-same : (p : SbcParameters) (c : ℕ) (d₁ d₂ : SbcDecoder) → SameDecoder c d₁ d₂
    → get_or (start_histories p d₁) c no_synthesis ≡ get_or (start_histories p d₂) c no_synthesis
unfolding start_histories
starts-same p c d₁ d₂ s =
    ap (λ q. get_or (if same_subbands p q then d₁.synthesis else cleared) c no_synthesis) s.parameters ∙ go (same_subbands p d₂.parameters)
  where
    go : (t : Bool) → get_or (if t then d₁.synthesis else cleared) c no_synthesis ≡ get_or (if t then d₂.synthesis else cleared) c no_synthesis
    go true = s.history
    go false = refl

-- ---- a frame's samples, and others behind them
within : (p : SbcParameters) (d : SbcDecoder) (f : Fields) (more : List ℤ) (i : ℕ) → i < frame_samples p
    → get_or (decode_fields p (start_histories p d) f ++ more) i (pos 0) ≡ get_or (decode_fields p (start_histories p d) f) i (pos 0)
within p d f more i h =
    get_or-append (decode_fields p (start_histories p d) f) more (pos 0) i (omega (arith, length-decoded p (start_histories p d) f))

behind : (p : SbcParameters) (d : SbcDecoder) (f : Fields) (more : List ℤ) (i : ℕ) → frame_samples p ≤ i
    → get_or (decode_fields p (start_histories p d) f ++ more) i (pos 0) ≡ get_or more (i - frame_samples p) (pos 0)
behind p d f more i h =
    let pcm : List ℤ = decode_fields p (start_histories p d) f in
    let e : i ≡ length pcm + (i - frame_samples p) = omega (arith, length-decoded p (start_histories p d) f) in
    ap (λ k. get_or (pcm ++ more) k (pos 0)) e ∙ get_or-append-add pcm more (i - frame_samples p) (pos 0)

-- ---- dual channel
module _ (p : SbcParameters) (dual : p.channel_mode ≡ DualChannel) (c : ℕ) (hc : c < 2) where
  no_join : (f : Fields) → WellFormed p f → f.join ≡ []
  no_join f w = nil-of-length f.join (w.joins ∙ no-flags p dual)

  -- a frame played by both
  next-same : (d₁ d₂ : SbcDecoder) → SameDecoder c d₁ d₂ → (f g : Fields) → WellFormed p f → WellFormed p g → SameFields c f g
      → SameDecoder c (next_decoder p d₁ f) (next_decoder p d₂ g)
  unfolding next_decoder with_parameters with_synthesis with_skip
  next-same d₁ d₂ s f g wf wg same =
      record {
        parameters = refl;
        finishing = s.finishing;
        skip₁ = still-unskipped p d₁ s.skip₁ f;
        skip₂ = still-unskipped p d₂ s.skip₂ g;
        history =
            synthesis-same p dual c hc (start_histories p d₁) (start_histories p d₂) f g (no_join f wf) (no_join g wg)
            (starts-same p c d₁ d₂ s)
            same;
      }

  -- all frames played by both
  decoders-same : {fs gs : List Fields} → SameFrames p c fs gs → (d₁ d₂ : SbcDecoder) → SameDecoder c d₁ d₂
      → SameDecoder c (decoder_after p fs d₁) (decoder_after p gs d₂)
  unfolding decoder_after
  decoders-same no_frames d₁ d₂ s = s
  decoders-same (one-frame {f} {g} wf wg same rest) d₁ d₂ s =
      decoders-same rest (next_decoder p d₁ f) (next_decoder p d₂ g) (next-same d₁ d₂ s f g wf wg same)

  module _ (d₁ d₂ : SbcDecoder) (s : SameDecoder c d₁ d₂) (f g : Fields) (wf : WellFormed p f) (wg : WellFormed p g) (same : SameFields c f g) where
    -- a frame's samples, and others behind them that are the same
    pcm-same : (xs ys : List ℤ) → SameAt c xs ys
        → SameAt c (decode_fields p (start_histories p d₁) f ++ xs) (decode_fields p (start_histories p d₂) g ++ ys)
    pcm-same xs ys h i e = go (ltb i (frame_samples p)) refl
      where
        go : (t : Bool) → ltb i (frame_samples p) ≡ t
            → get_or (decode_fields p (start_histories p d₁) f ++ xs) i (pos 0) ≡ get_or (decode_fields p (start_histories p d₂) g ++ ys) i (pos 0)
        go true t =
            let l : i < frame_samples p = ltb-true i (frame_samples p) t in
            within p d₁ f xs i l
            ∙ output-same p dual c hc (start_histories p d₁) (start_histories p d₂) f g (no_join f wf) (no_join g wg) (starts-same p c d₁ d₂ s) same i l e
            ∙ sym (within p d₂ g ys i l)
        go false t =
            let l : frame_samples p ≤ i = ltb-false i (frame_samples p) t in
            let j : ℕ = i - frame_samples p in
            let q : frame_samples p + j ≡ i = omega arith in
            behind p d₁ f xs i l ∙ h j (sym (frame-even p dual j) ∙ ap (λ k. k % 2) q ∙ e) ∙ sym (behind p d₂ g ys i l)

  -- all frames' samples
  samples-same : {fs gs : List Fields} → SameFrames p c fs gs → (d₁ d₂ : SbcDecoder) → SameDecoder c d₁ d₂
      → SameAt c (samples_of p fs d₁) (samples_of p gs d₂)
  unfolding samples_of
  samples-same no_frames d₁ d₂ s = λ i e. refl
  samples-same (one-frame {f} {g} {fs} {gs} wf wg same rest) d₁ d₂ s =
      let e₁ : SbcDecoder = next_decoder p d₁ f in
      let e₂ : SbcDecoder = next_decoder p d₂ g in
      pcm-same d₁ d₂ s f g wf wg same (samples_of p fs e₁) (samples_of p gs e₂) (samples-same rest e₁ e₂ (next-same d₁ d₂ s f g wf wg same))

  -- ---- the call
  -- n frames in both: the same answer, decoders that are the same in channel c, and the same at its places
  pub record SameDecoded (n : ℕ) (r₁ r₂ : Decoded) : Type 0 where
    pub answer : r₁.answer ≡ r₂.answer
    pub decoder : SameDecoder c r₁.decoder r₂.decoder
    pub output : SamePlaces c (n * frame_samples p) r₁.output r₂.output

  -- two calls on pieces of the same place and size
  pub decode-same : accepted p ≡ true → {fs gs : List Fields} → SameFrames p c fs gs → (len : ℕ) (d₁ d₂ : SbcDecoder) → SameDecoder c d₁ d₂
      → (o₁ o₂ : List ℤ) → length o₁ ≡ length o₂
      → SameDecoded (whole_frames (length (take len (pack_all p fs))) (frame_length p) (length o₁) (frame_samples p))
      (decode d₁ (take len (pack_all p fs)) o₁)
      (decode d₂ (take len (pack_all p gs)) o₂)
  unfolding decode played
  decode-same a {fs} {gs} same len d₁ d₂ s o₁ o₂ lo =
      let i₁ : List ℕ = take len (pack_all p fs) in
      let i₂ : List ℕ = take len (pack_all p gs) in
      let n : ℕ = whole_frames (length i₁) (frame_length p) (length o₁) (frame_samples p) in
      let li : length i₁ ≡ length i₂ = pieces-length p c same len in
      let en : whole_frames (length i₂) (frame_length p) (length o₂) (frame_samples p) ≡ n =
      sym (ap₂ (λ i o. whole_frames i (frame_length p) o (frame_samples p)) li lo) in
      let run₁ = decode-played p a fs (fit-left p c same) len d₁ o₁ s.skip₁ in
      let run₂ = decode-played p a gs (fit-right p c same) len d₂ o₂ s.skip₂ ∙ ap (λ k. played p k gs d₂ (length i₂) o₂) en in
      let there₁ : n ≤ length fs = piece-frames p a fs len (length o₁) in
      let there₂ : n ≤ length gs = omega (arith, same_length p c same, there₁) in
      let first = same-take p c n same in
      rw (run₁, run₂)
      (record {
        answer = λ i. answer_of (progress_of (n * frame_length p) (n * frame_samples p)) (ending_for p (s.finishing i) (li i - n * frame_length p));
        decoder = decoders-same first d₁ d₂ s;
        output = λ i h e.
            get_or-append (samples_of p (take n fs) d₁) _ (pos 0) i (omega (arith, length-first p n fs d₁ there₁))
            ∙ samples-same first d₁ d₂ s i e
            ∙ sym (get_or-append (samples_of p (take n gs) d₂) _ (pos 0) i (omega (arith, length-first p n gs d₂ there₂)));
      })
