-- The encode call: what it does whether it is refused or not; and in dual channel, that two calls alike in one channel return the same, write
-- frames that are the same in that channel, and leave encoders that are.
-- Assumes nothing.
use Prim.Native.Nat.{ℕ, zero, suc, ◌+◌, ◌*◌, ◌%◌, ◌≤◌, ◌<◌}
use mathlib.Core.Path.{◌≡◌, refl, sym, ap, ap₂, ◌∙◌, subst, subst₂}
use mathlib.Core.Bool.{Bool, true, false}
use mathlib.Core.List.{List, ◌∷◌}
use native.Mathlib.Nat.{zero-mul}
use native.Mathlib.Omega.{arith}
use lib.Dec.{ltb}
use lib.IntN.{ℤ, pos}
use lib.ListN.{length, get_or, take, drop, get_or-eq_default}
use lib.Seq.{get_or-drop, take_at}
use borrow.Author.Tests.{ltb-true, ltb-false}
use Rattle.std.specs.Prelude.{if◌then◌else◌}
use Rattle.laws.specs.Answers.{Told, gives, refuses}
use Rattle.sbc_parameters.specs.declared.SbcParameters.{SbcParameters}
use Rattle.sbc_modes.specs.declared.SbcChannelMode.TheVariants.{DualChannel}
use Rattle.sbc_parameters.specs.Parameters.{accepted}
use Rattle.sbc_parameters.specs.Sizes.{frame_length, frame_samples}
use Rattle.sbc_frame.specs.Fields.{Fields}
use Rattle.sbc_frame.specs.Channels.{no_analysis}
use Rattle.sbc_frame.specs.Encoding.{encode_fields, analysis_histories}
use Rattle.sbc_frame.proofs.Coding.{SameAt, encode-fits, two-channels, fields-same, analysis-same}
use Rattle.codec.specs.Answers.{progress_of, whole_frames}
use Rattle.sbc_encoder.specs.Encode.{histories, with_histories, next_encoder, encoder_after, encoded_frames, pack_all, Encoded, encode_frames, encode}
use Rattle.sbc_encoder.proofs.Writing.{histories-next, length-frames}
use Rattle.sbc.specs.TwoLanguages.{SamePlaces}
use Rattle.codec.specs.declared.Progress.{Progress}
use Rattle.sbc_encoder.specs.declared.SbcEncoder.{SbcEncoder}
use Rattle.codec.proofs.Fitting.{none_out}
use Rattle.sbc.proofs.Streams.{SameFrames, no_frames, one-frame}

-- ---- the call
-- what it returns goes by the lengths
unfoldable pub answer_for : SbcParameters → ℕ → ℕ → Told Progress
answer_for p input output =
    let n = whole_frames input (frame_samples p) output (frame_length p) in
    if ltb output (frame_length p) then refuses 5 else gives (progress_of (n * frame_samples p) (n * frame_length p))

-- what a call on set p that encodes n frames does; n is 0 where it is refused
pub record Call (p : SbcParameters) (e : SbcEncoder) (pcm : List ℤ) (output : List ℕ) (n : ℕ) (r : Encoded) : Type 0 where
  pub answer : r.answer ≡ answer_for p (length pcm) (length output)
  pub encoder : r.encoder ≡ encoder_after n e pcm
  pub written : take (n * frame_length p) r.output ≡ pack_all p (encoded_frames n e pcm)

own-call : (e : SbcEncoder) (pcm : List ℤ) (output : List ℕ) → accepted e.parameters ≡ true → let p = e.parameters in
    Call p e pcm output (whole_frames (length pcm) (frame_samples p) (length output) (frame_length p)) (encode e pcm output)
unfolding encode answer_for encode_frames encoder_after encoded_frames pack_all
own-call e pcm output a = go (ltb (length output) (frame_length p)) refl
  where
    p : SbcParameters
    p = e.parameters

    n : ℕ
    n = whole_frames (length pcm) (frame_samples p) (length output) (frame_length p)

    go : (t : Bool) → ltb (length output) (frame_length p) ≡ t → Call p e pcm output n (encode e pcm output)
    go true t =
        let none : whole_frames (length pcm) (frame_samples p) (length output) (frame_length p) ≡ 0 =
        none_out (length pcm) (frame_samples p) (length output) (frame_length p) (ltb-true _ _ t) in
        record { answer = rw (a, t); encoder = rw (a, t, none); written = rw (a, t, none, zero-mul (frame_length p)) }
    go false t =
        record {
          answer = rw (a, t);
          encoder = rw (a, t);
          written =
              rw (a, t)
              (take_at (pack_all p (encoded_frames n e pcm)) (drop (n * frame_length p) output) (n * frame_length p) (length-frames n e pcm p));
        }

-- a call encodes as many frames as fit
pub encode-call : (p : SbcParameters) → accepted p ≡ true → (e : SbcEncoder) → e.parameters ≡ p → (pcm : List ℤ) (output : List ℕ)
    → Call p e pcm output (whole_frames (length pcm) (frame_samples p) (length output) (frame_length p)) (encode e pcm output)
encode-call p a e h pcm output =
    subst (λ q. Call q e pcm output (whole_frames (length pcm) (frame_samples q) (length output) (frame_length q)) (encode e pcm output)) h
    (own-call e pcm output (ap accepted h ∙ a))

-- ---- two encoders
-- both of set p, with the same history of channel c
pub record SameEncoder (p : SbcParameters) (c : ℕ) (e₁ e₂ : SbcEncoder) : Type 0 where
  pub parameters₁ : e₁.parameters ≡ p
  pub parameters₂ : e₂.parameters ≡ p
  pub history : get_or (histories e₁) c no_analysis ≡ get_or (histories e₂) c no_analysis

-- places behind both lists' ends are the same too
pub all_same : (c : ℕ) (xs ys : List ℤ) → length xs ≡ length ys → SamePlaces c (length xs) xs ys → SameAt c xs ys
all_same c xs ys l h i e = go (ltb i (length xs)) refl
  where
    go : (t : Bool) → ltb i (length xs) ≡ t → get_or xs i (pos 0) ≡ get_or ys i (pos 0)
    go true t = h i (ltb-true i (length xs) t) e
    go false t =
        let out : length xs ≤ i = ltb-false i (length xs) t in
        get_or-eq_default xs (pos 0) out ∙ sym (get_or-eq_default ys (pos 0) (rw l at out))

-- ---- dual channel
module _ (p : SbcParameters) (dual : p.channel_mode ≡ DualChannel) where
  -- the places of a channel are the same places behind a frame
  pub frame-even : (i : ℕ) → (frame_samples p + i) % 2 ≡ i % 2
  unfolding frame_samples
  frame-even i = rw (two-channels p dual) (omega arith)

  same_rest : (c : ℕ) (xs ys : List ℤ) → SameAt c xs ys → SameAt c (drop (frame_samples p) xs) (drop (frame_samples p) ys)
  same_rest c xs ys h i e =
      get_or-drop (frame_samples p) xs i (pos 0) ∙ h (frame_samples p + i) (frame-even i ∙ e) ∙ sym (get_or-drop (frame_samples p) ys i (pos 0))

  module _ (c : ℕ) (hc : c < 2) where
    histories-after : (e : SbcEncoder) (pcm : List ℤ) → e.parameters ≡ p → histories (next_encoder e pcm) ≡ analysis_histories p (histories e) pcm
    histories-after e pcm q = histories-next e pcm ∙ ap (λ q. analysis_histories q (histories e) pcm) q

    next-same : (e₁ e₂ : SbcEncoder) (xs ys : List ℤ) → SameEncoder p c e₁ e₂ → SameAt c xs ys
        → SameEncoder p c (next_encoder e₁ xs) (next_encoder e₂ ys)
    unfolding next_encoder with_histories
    next-same e₁ e₂ xs ys s h =
        record {
          parameters₁ = s.parameters₁;
          parameters₂ = s.parameters₂;
          history =
              ap (λ l. get_or l c no_analysis) (histories-after e₁ xs s.parameters₁)
              ∙ analysis-same p dual c hc (histories e₁) (histories e₂) xs ys s.history h
              ∙ sym (ap (λ l. get_or l c no_analysis) (histories-after e₂ ys s.parameters₂));
        }

    -- n frames of both
    encoders-same : (n : ℕ) (e₁ e₂ : SbcEncoder) (xs ys : List ℤ) → SameEncoder p c e₁ e₂ → SameAt c xs ys
        → SameEncoder p c (encoder_after n e₁ xs) (encoder_after n e₂ ys)
    unfolding encoder_after
    encoders-same zero e₁ e₂ xs ys s h = s
    encoders-same (suc n) e₁ e₂ xs ys s h =
        subst₂
        (λ p₁ p₂. SameEncoder p c (encoder_after n (next_encoder e₁ xs) (drop (frame_samples p₁) xs))
        (encoder_after n (next_encoder e₂ ys) (drop (frame_samples p₂) ys)))
        (sym s.parameters₁)
        (sym s.parameters₂)
        (encoders-same n (next_encoder e₁ xs) (next_encoder e₂ ys) (drop (frame_samples p) xs) (drop (frame_samples p) ys)
        (next-same e₁ e₂ xs ys s h) (same_rest c xs ys h))

    frames-same : (n : ℕ) (e₁ e₂ : SbcEncoder) (xs ys : List ℤ) → SameEncoder p c e₁ e₂ → SameAt c xs ys
        → SameFrames p c (encoded_frames n e₁ xs) (encoded_frames n e₂ ys)
    unfolding encoded_frames
    frames-same zero e₁ e₂ xs ys s h = no_frames
    frames-same (suc n) e₁ e₂ xs ys s h =
        subst₂
        (λ p₁ p₂. SameFrames p c (encode_fields p₁ (histories e₁) xs ∷ encoded_frames n (next_encoder e₁ xs) (drop (frame_samples p₁) xs))
        (encode_fields p₂ (histories e₂) ys ∷ encoded_frames n (next_encoder e₂ ys) (drop (frame_samples p₂) ys)))
        (sym s.parameters₁)
        (sym s.parameters₂)
        (one-frame (encode-fits p (histories e₁) xs) (encode-fits p (histories e₂) ys)
        (fields-same p dual c hc (histories e₁) (histories e₂) xs ys s.history h)
        (frames-same n (next_encoder e₁ xs) (next_encoder e₂ ys) (drop (frame_samples p) xs) (drop (frame_samples p) ys)
        (next-same e₁ e₂ xs ys s h) (same_rest c xs ys h)))

    -- n frames in both calls: the same answer, encoders that are the same in channel c, and frames that are
    pub record SameEncoded (n : ℕ) (r₁ r₂ : Encoded) : Type 0 where
      pub answer : r₁.answer ≡ r₂.answer
      pub encoder : SameEncoder p c r₁.encoder r₂.encoder
      pub frames₁ : List Fields
      pub frames₂ : List Fields
      pub written₁ : take (n * frame_length p) r₁.output ≡ pack_all p frames₁
      pub written₂ : take (n * frame_length p) r₂.output ≡ pack_all p frames₂
      pub same : SameFrames p c frames₁ frames₂

    -- two calls that are alike in channel c
    pub encode_same : accepted p ≡ true → (e₁ e₂ : SbcEncoder) → SameEncoder p c e₁ e₂ → (xs ys : List ℤ) (o₁ o₂ : List ℕ) → length xs ≡ length ys
        → SamePlaces c (length xs) xs ys → length o₁ ≡ length o₂
        → SameEncoded (whole_frames (length xs) (frame_samples p) (length o₁) (frame_length p)) (encode e₁ xs o₁) (encode e₂ ys o₂)
    encode_same a e₁ e₂ s xs ys o₁ o₂ lx sx lo =
        let n : ℕ = whole_frames (length xs) (frame_samples p) (length o₁) (frame_length p) in
        let pcm : SameAt c xs ys = all_same c xs ys lx sx in
        let call₁ : Call p e₁ xs o₁ n (encode e₁ xs o₁) = encode-call p a e₁ s.parameters₁ xs o₁ in
        let call₂ : Call p e₂ ys o₂ n (encode e₂ ys o₂) =
        subst (λ k. Call p e₂ ys o₂ k (encode e₂ ys o₂)) (sym (ap₂ (λ i o. whole_frames i (frame_samples p) o (frame_length p)) lx lo))
        (encode-call p a e₂ s.parameters₂ ys o₂) in
        record {
          answer = call₁.answer ∙ ap₂ (answer_for p) lx lo ∙ sym call₂.answer;
          encoder = rw (call₁.encoder, call₂.encoder) (encoders-same n e₁ e₂ xs ys s pcm);
          frames₁ = encoded_frames n e₁ xs;
          frames₂ = encoded_frames n e₂ ys;
          written₁ = call₁.written;
          written₂ = call₂.written;
          same = frames-same n e₁ e₂ xs ys s pcm;
        }
