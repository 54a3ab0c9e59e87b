-- The encode loop: its invariant holds at the start and after each frame.
-- Assumes nothing.
use Prim.Native.Nat.{ℕ, ◌+◌, ◌-◌, ◌*◌, ◌≤◌}
use mathlib.Core.Path.{◌≡◌, refl, sym, ap, ap₂, ◌∙◌}
use mathlib.Core.List.{List, [], ◌∷◌, ◌++◌, append_assoc, append-nil}
use native.Mathlib.Nat.{zero-mul, suc-mul}
use native.Mathlib.Numerals.{add-one}
use native.Mathlib.Omega.{arith}
use lib.IntN.{ℤ}
use lib.ListN.{length, drop}
use Rattle.std.specs.Prelude.{map}
use lib.Seq.{take_at, drop_at}
use borrow.Rule.Slice.PartMut.{put_mid, Post-is}
use Rattle.sbc_parameters.specs.Sizes.{frame_length, frame_samples}
use Rattle.sbc_parameters.specs.declared.SbcParameters.{SbcParameters}
use Rattle.sbc_filterbank.specs.declared.analysis.Analysis.{Analysis}
use Rattle.sbc_frame.specs.Fields.{Fields}
use Rattle.sbc_frame.specs.Layout.{pack}
use Rattle.sbc_frame.specs.Encoding.{encode_fields, analysis_histories}
use Rattle.sbc_encoder.specs.Encode.{histories, with_histories, next_encoder, encoder_after, encoded_frames, pack_all}
use Rattle.sbc_encoder.specs.Told.{encoder_with}
use Rattle.sbc_encoder.specs.declared.SbcEncoder.{SbcEncoder}
use Rattle.sbc_encoder.proofs.Writing.{length-frames, encoder-snoc, frames-snoc}

-- one more frame at the end, as bytes
packed-snoc : (p : SbcParameters) (fs : List Fields) (f : Fields) → pack_all p (fs ++ (f ∷ [])) ≡ pack_all p fs ++ pack p f
unfolding pack_all
packed-snoc p [] f = append-nil (pack p f)
packed-snoc p (g ∷ gs) f =
    ap (λ l. pack p g ++ l) (packed-snoc p gs f) ∙ sym (append_assoc (pack p g) (pack_all p gs) (pack p f))

-- a part of what stands behind a list, put in its place
put-behind : {A : Type 0} (xs ys zs : List A) (a e : ℕ) → length xs ≡ a → a ≤ e
    → put_mid a (e - a) (xs ++ drop a ys) zs ≡ (xs ++ zs) ++ drop e ys
put-behind xs ys zs a e l h =
    ap₂ (λ u v. u ++ (zs ++ drop (e - a) v)) (take_at xs (drop a ys) a l) (drop_at xs (drop a ys) a l)
    ∙ ap (λ v. xs ++ (zs ++ v)) (Post-is a e ys h)
    ∙ sym (append_assoc xs zs (drop e ys))

-- the histories with what stands in them
wrapped : (hs : List Analysis) → map (λ h. record { history = h }) (map (λ a. a.history) hs) ≡ hs
wrapped [] = refl
wrapped (a ∷ hs) = ap (λ (l : List Analysis). a ∷ l) (wrapped hs)

module _ (p : SbcParameters) (histories₀ : List Analysis) (input : List ℤ) (output₀ : List ℕ) where
  -- the encoder at the start
  abbrev first : SbcEncoder
  first = encoder_with p histories₀

  -- the invariant after i frames: the histories are the encoder's, and the frames stand in front of what the output held
  pub record Framing (hs : List Analysis) (output : List ℕ) (i : ℕ) : Type 0 where
    pub encoder : encoder_with p hs ≡ encoder_after i first input
    pub written : output ≡ pack_all p (encoded_frames i first input) ++ drop (i * frame_length p) output₀

  -- no frame is written yet
  pub no_frame : Framing histories₀ output₀ 0
  unfolding encoder_after encoded_frames pack_all
  no_frame = record { encoder = refl; written = ap (λ k. drop k output₀) (sym (zero-mul (frame_length p))) }

  module _ {hs : List Analysis} {output : List ℕ} {i : ℕ} (t : Framing hs output i) where
    -- one more frame, from the samples behind i frames
    pub next-frame : (hs' : List Analysis) (frame : List ℕ)
        → map (λ a. a.history) hs' ≡ analysis_histories p (map (λ a. a.history) hs) (drop (i * frame_samples p) input)
        → frame ≡ pack p (encode_fields p (map (λ a. a.history) hs) (drop (i * frame_samples p) input))
        → Framing hs' (put_mid (i * frame_length p) ((i + 1) * frame_length p - i * frame_length p) output frame) (i + 1)
    unfolding histories with_histories next_encoder
    next-frame hs' frame hears bytes =
        let pcm = drop (i * frame_samples p) input in
        let more : pack_all p (encoded_frames i first input) ++ frame ≡ pack_all p (encoded_frames (i + 1) first input) =
        ap (λ l. pack_all p (encoded_frames i first input) ++ l) (bytes ∙ ap (λ e. pack p (encode_fields p (histories e) pcm)) t.encoder)
        ∙ sym (packed-snoc p (encoded_frames i first input) (encode_fields p (histories (encoder_after i first input)) pcm))
        ∙ ap (pack_all p) (sym (frames-snoc i first input) ∙ ap (λ n. encoded_frames n first input) (sym (add-one i))) in
        record {
          encoder =
              ap (encoder_with p) (sym (wrapped hs'))
              ∙ ap (with_histories (encoder_with p hs)) hears
              ∙ ap (λ e. next_encoder e pcm) t.encoder
              ∙ sym (encoder-snoc i first input)
              ∙ ap (λ n. encoder_after n first input) (sym (add-one i));
          written =
              ap (λ o. put_mid (i * frame_length p) ((i + 1) * frame_length p - i * frame_length p) o frame) t.written
              ∙ put-behind (pack_all p (encoded_frames i first input)) output₀ frame (i * frame_length p) ((i + 1) * frame_length p)
              (length-frames i first input p) (omega (arith, suc-mul i (frame_length p)))
              ∙ ap (λ l. l ++ drop ((i + 1) * frame_length p) output₀) more;
        }
