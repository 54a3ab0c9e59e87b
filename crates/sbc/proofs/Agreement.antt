-- Two runs in dual channel that agree in one channel: each action that is alike in it gives the same, and leaves them agreeing.
-- Assumes nothing.
use Prim.Native.Nat.{ℕ, ◌*◌, ◌<◌}
use mathlib.Core.Path.{◌≡◌, refl, sym, ap, ap₂, ◌∙◌, subst₂}
use mathlib.Core.Bool.{true}
use mathlib.Core.List.{List, ◌++◌}
use lib.IntN.{ℤ}
use lib.ListN.{length, take, drop}
use Rattle.sbc_parameters.specs.declared.SbcParameters.{SbcParameters}
use Rattle.sbc_modes.specs.declared.SbcChannelMode.TheVariants.{DualChannel}
use Rattle.sbc_parameters.specs.Parameters.{accepted}
use Rattle.sbc_parameters.specs.Sizes.{frame_length, frame_samples}
use Rattle.sbc_frame.specs.Fields.{Fields}
use Rattle.codec.specs.Answers.{whole_frames}
use Rattle.sbc_encoder.specs.Encode.{pack_all, encode}
use Rattle.sbc_decoder.specs.Decode.{decode}
use Rattle.sbc.specs.TwoLanguages.{Action, State, After, after_encode, after_decode, after, SamePlaces, SameResult}
use Rattle.sbc.specs.TwoLanguages.{Alike, both_encode, both_finish, both_decode}
use Rattle.sbc_decoder.specs.declared.SbcDecoder.{SbcDecoder}
use Rattle.sbc.proofs.Streams.{longer, piece-from, SameFrames, same-append, same_drop, pieces-length}
use Rattle.sbc.proofs.Encoded.{SameEncoder, encode_same}
use Rattle.sbc.proofs.Heard.{SameDecoder, finish-same, SameDecoded, decode-same}

-- two states agree in channel c
pub record Agree (p : SbcParameters) (c : ℕ) (s₁ s₂ : State) : Type 0 where
  pub encoder : SameEncoder p c s₁.encoder s₂.encoder
  pub decoder : SameDecoder c s₁.decoder s₂.decoder
  -- the streams are written frames
  pub frames₁ : List Fields
  pub frames₂ : List Fields
  pub stream₁ : s₁.stream ≡ pack_all p frames₁
  pub stream₂ : s₂.stream ≡ pack_all p frames₂
  pub same : SameFrames p c frames₁ frames₂

-- what an action gave, and the states behind it
pub record Keeps (p : SbcParameters) (c : ℕ) (x y : After) : Type 0 where
  pub result : SameResult p c x.result y.result
  pub state : Agree p c x.state y.state

module _ (p : SbcParameters) (a : accepted p ≡ true) (dual : p.channel_mode ≡ DualChannel) (c : ℕ) (hc : c < 2) where
  encodes-keep : (s₁ s₂ : State) → Agree p c s₁ s₂ → (xs ys : List ℤ) (o₁ o₂ : List ℕ) → length xs ≡ length ys → SamePlaces c (length xs) xs ys
      → length o₁ ≡ length o₂ → Keeps p c (after_encode p s₁ xs o₁) (after_encode p s₂ ys o₂)
  unfolding after_encode
  encodes-keep s₁ s₂ g xs ys o₁ o₂ lx sx lo =
      let n : ℕ = whole_frames (length xs) (frame_samples p) (length o₁) (frame_length p) in
      let en : n ≡ whole_frames (length ys) (frame_samples p) (length o₂) (frame_length p) =
      ap₂ (λ i o. whole_frames i (frame_samples p) o (frame_length p)) lx lo in
      let r = encode_same p dual c hc a s₁.encoder s₂.encoder g.encoder xs ys o₁ o₂ lx sx lo in
      let written₂ = ap (λ k. take (k * frame_length p) (encode s₂.encoder ys o₂).output) (sym en) ∙ r.written₂ in
      record {
        result = record { answer = r.answer; n = en; output = λ i h e. refl };
        state =
            record {
              encoder = r.encoder;
              decoder = g.decoder;
              frames₁ = g.frames₁ ++ r.frames₁;
              frames₂ = g.frames₂ ++ r.frames₂;
              stream₁ = longer p s₁.stream _ g.frames₁ r.frames₁ g.stream₁ r.written₁;
              stream₂ = longer p s₂.stream _ g.frames₂ r.frames₂ g.stream₂ written₂;
              same = same-append p c g.same r.same;
            };
      }

  decodes-keep : (s₁ s₂ : State) → Agree p c s₁ s₂ → (start size : ℕ) (o₁ o₂ : List ℤ) → length o₁ ≡ length o₂
      → Keeps p c (after_decode p s₁ start size o₁) (after_decode p s₂ start size o₂)
  unfolding after_decode
  decodes-keep s₁ s₂ g start size o₁ o₂ lo =
      let d₁ : SbcDecoder = s₁.decoder in
      let d₂ : SbcDecoder = s₂.decoder in
      let i₁ : List ℕ = take size (drop (start * frame_length p) s₁.stream) in
      let i₂ : List ℕ = take size (drop (start * frame_length p) s₂.stream) in
      let q₁ : i₁ ≡ take size (pack_all p (drop start g.frames₁)) = piece-from p start size s₁.stream g.frames₁ g.stream₁ in
      let q₂ : i₂ ≡ take size (pack_all p (drop start g.frames₂)) = piece-from p start size s₂.stream g.frames₂ g.stream₂ in
      let same = same_drop p c start g.same in
      let li : length i₁ ≡ length i₂ = ap length q₁ ∙ pieces-length p c same size ∙ sym (ap length q₂) in
      let r : SameDecoded p dual c hc (whole_frames (length i₁) (frame_length p) (length o₁) (frame_samples p)) (decode d₁ i₁ o₁) (decode d₂ i₂ o₂) =
      subst₂
      (λ x y. SameDecoded p dual c hc (whole_frames (length x) (frame_length p) (length o₁) (frame_samples p)) (decode d₁ x o₁) (decode d₂ y o₂))
      (sym q₁)
      (sym q₂)
      (decode-same p dual c hc a same size d₁ d₂ g.decoder o₁ o₂ lo) in
      record {
        result =
            record {
              answer = r.answer;
              n = ap₂ (λ i o. whole_frames i (frame_length p) o (frame_samples p)) li lo;
              output = r.output;
            };
        state =
            record {
              encoder = g.encoder;
              decoder = r.decoder;
              frames₁ = g.frames₁;
              frames₂ = g.frames₂;
              stream₁ = g.stream₁;
              stream₂ = g.stream₂;
              same = g.same;
            };
      }

  -- any action
  pub action-keeps : {x y : Action} → Alike c x y → (s₁ s₂ : State) → Agree p c s₁ s₂ → Keeps p c (after p s₁ x) (after p s₂ y)
  unfolding after
  action-keeps (both_encode {xs} {ys} {out₁} {out₂} lx sx lo) s₁ s₂ g = encodes-keep s₁ s₂ g xs ys out₁ out₂ lx sx lo
  action-keeps both_finish s₁ s₂ g =
      record {
        result = record { answer = refl; n = refl; output = λ i h e. refl };
        state =
            record {
              encoder = g.encoder;
              decoder = finish-same c s₁.decoder s₂.decoder g.decoder;
              frames₁ = g.frames₁;
              frames₂ = g.frames₂;
              stream₁ = g.stream₁;
              stream₂ = g.stream₂;
              same = g.same;
            };
      }
  action-keeps (both_decode {start} {size} {out₁} {out₂} lo) s₁ s₂ g = decodes-keep s₁ s₂ g start size out₁ out₂ lo
