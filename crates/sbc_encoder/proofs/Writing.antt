-- Frames written one after the other: their length, the cases of an encode call, one more frame at the end, and what a call leaves as it is.
-- Assumes nothing.
use Prim.Native.Nat.{ℕ, zero, suc, ◌+◌, ◌*◌, ◌≤◌, ◌<◌}
use mathlib.Core.Path.{◌≡◌, refl, sym, ap, subst, ◌∙◌}
use mathlib.Core.Bool.{true, false}
use mathlib.Core.List.{List, [], ◌∷◌, ◌++◌}
use native.Mathlib.Nat.{zero-mul, suc-mul}
use native.Mathlib.Omega.{arith}
use lib.Dec.{ltb}
use lib.IntN.{ℤ}
use lib.ListN.{length, drop, length-append, length-drop}
use lib.Seq.{drop_at, drop-drop}
use borrow.Author.Tests.{lt-ltb, ltb-true, ltb-false}
use Rattle.laws.specs.Answers.{gives, refuses}
use Rattle.laws.proofs.Cases.{by-test}
use Rattle.sbc_parameters.specs.Parameters.{accepted}
use Rattle.sbc_parameters.specs.Sizes.{frame_length, frame_samples}
use Rattle.sbc_parameters.specs.declared.SbcParameters.{SbcParameters}
use Rattle.sbc_frame.specs.Fields.{Fields}
use Rattle.sbc_frame.specs.Layout.{pack}
use Rattle.sbc_frame.specs.Encoding.{encode_fields, analysis_histories}
use Rattle.sbc_frame.proofs.Written.{length-pack}
use Rattle.codec.specs.Answers.{progress_of, whole_frames}
use Rattle.sbc_encoder.specs.Encode.{histories, with_histories, next_encoder, encoder_after, encoded_frames, pack_all, Encoded, encode_frames, encode}
use Rattle.codec.specs.declared.Progress.{Progress}
use Rattle.sbc_encoder.specs.declared.SbcEncoder.{SbcEncoder}
use Rattle.laws.proofs.Answers.{gives_same}
use Rattle.codec.proofs.Fitting.{fits_out}

-- ---- the encoder
-- the histories that were set
pub histories-with : (e : SbcEncoder) (hs : List (List ℤ)) → histories (with_histories e hs) ≡ hs
unfolding histories with_histories
histories-with e [] = refl
histories-with e (h ∷ hs) = ap (λ (l : List (List ℤ)). h ∷ l) (histories-with e hs)

-- the histories after a frame
pub histories-next : (e : SbcEncoder) (pcm : List ℤ) → histories (next_encoder e pcm) ≡ analysis_histories e.parameters (histories e) pcm
unfolding next_encoder
histories-next e pcm = histories-with e (analysis_histories e.parameters (histories e) pcm)

-- n frames are n
pub frames-count : (n : ℕ) (e : SbcEncoder) (pcm : List ℤ) → length (encoded_frames n e pcm) ≡ n
unfolding encoded_frames
frames-count zero e pcm = refl
frames-count (suc n) e pcm = ap suc (frames-count n (next_encoder e pcm) (drop (frame_samples e.parameters) pcm))

-- ---- frames end to end
module _ (p : SbcParameters) where
  -- as long as all their frames
  pub length-pack_all : (fs : List Fields) → length (pack_all p fs) ≡ length fs * frame_length p
  unfolding pack_all
  length-pack_all [] = sym (zero-mul (frame_length p))
  length-pack_all (f ∷ fs) =
      length-append (pack p f) (pack_all p fs) ∙ omega (arith, length-pack p f, length-pack_all fs, suc-mul (length fs) (frame_length p))

-- they are as long as n frames
pub length-frames : (n : ℕ) (e : SbcEncoder) (pcm : List ℤ) (p : SbcParameters) → length (pack_all p (encoded_frames n e pcm)) ≡ n * frame_length p
length-frames n e pcm p = length-pack_all p (encoded_frames n e pcm) ∙ ap (λ k. k * frame_length p) (frames-count n e pcm)

-- ---- the cases of a call

-- as many frames as both buffers hold
abbrev pub frames : SbcEncoder → List ℤ → List ℕ → ℕ
frames e pcm output = whole_frames (length pcm) (frame_samples e.parameters) (length output) (frame_length e.parameters)

-- a set that is not accepted, an output under one frame, or the frames
pub encode-cases : (P : Encoded → Type 0) (e : SbcEncoder) (pcm : List ℤ) (output : List ℕ)
    → (accepted e.parameters ≡ false → P (record { answer = refuses 3; encoder = e; output = output }))
    → (accepted e.parameters ≡ true → length output < frame_length e.parameters
    → P (record { answer = refuses 5; encoder = e; output = output }))
    → (accepted e.parameters ≡ true → frame_length e.parameters ≤ length output → P (encode_frames (frames e pcm output) e pcm output))
    → P (encode e pcm output)
unfolding encode
encode-cases P e pcm output none short long =
    by-test P (accepted e.parameters) _ _
    (λ a. by-test P (ltb (length output) (frame_length e.parameters)) _ _
    (λ l. short a (ltb-true (length output) (frame_length e.parameters) l))
    (λ l. long a (ltb-false (length output) (frame_length e.parameters) l)))
    none

-- an output under one frame
pub encode_short : (e : SbcEncoder) (pcm : List ℤ) (output : List ℕ) → accepted e.parameters ≡ true → length output < frame_length e.parameters
    → encode e pcm output ≡ record { answer = refuses 5; encoder = e; output = output }
unfolding encode
encode_short e pcm output a h = rw (a, lt-ltb (length output) (frame_length e.parameters) h)

-- a set that is not accepted
pub encode-unaccepted : (e : SbcEncoder) (pcm : List ℤ) (output : List ℕ) → accepted e.parameters ≡ false
    → encode e pcm output ≡ record { answer = refuses 3; encoder = e; output = output }
unfolding encode
encode-unaccepted e pcm output a = rw a

pub ruleset refusing = (encode_short, encode-unaccepted)

-- ---- one more frame at the end: it comes from the encoder after n frames and the samples behind n frames

-- the parameters stay
pub parameters-after : (n : ℕ) (e : SbcEncoder) (pcm : List ℤ) → (encoder_after n e pcm).parameters ≡ e.parameters
unfolding encoder_after next_encoder with_histories
parameters-after zero e pcm = refl
parameters-after (suc n) e pcm = parameters-after n (next_encoder e pcm) (drop (frame_samples e.parameters) pcm)

-- the samples behind n + 1 parts
pub behind : {A : Type 0} (n size : ℕ) (pcm : List A) → drop (n * size) (drop size pcm) ≡ drop (suc n * size) pcm
behind n size pcm =
    let e : size + n * size ≡ suc n * size = omega (arith, suc-mul n size) in
    drop-drop (n * size) size pcm ∙ ap (λ k. drop k pcm) e

-- the encoder after one more frame
pub encoder-snoc : (n : ℕ) (e : SbcEncoder) (pcm : List ℤ)
    → encoder_after (suc n) e pcm ≡ next_encoder (encoder_after n e pcm) (drop (n * frame_samples e.parameters) pcm)
unfolding encoder_after next_encoder with_histories
encoder-snoc zero e pcm = ap (λ k. next_encoder e (drop k pcm)) (sym (zero-mul (frame_samples e.parameters)))
encoder-snoc (suc n) e pcm =
    let size = frame_samples e.parameters in
    encoder-snoc n (next_encoder e pcm) (drop size pcm)
    ∙ ap (next_encoder (encoder_after n (next_encoder e pcm) (drop size pcm))) (behind n size pcm)

-- and that frame
pub frames-snoc : (n : ℕ) (e : SbcEncoder) (pcm : List ℤ)
    → encoded_frames (suc n) e pcm
    ≡ encoded_frames n e pcm
    ++ (encode_fields e.parameters (histories (encoder_after n e pcm)) (drop (n * frame_samples e.parameters) pcm) ∷ [])
unfolding encoded_frames encoder_after next_encoder with_histories
frames-snoc zero e pcm = ap (λ k. encode_fields e.parameters (histories e) (drop k pcm) ∷ []) (sym (zero-mul (frame_samples e.parameters)))
frames-snoc (suc n) e pcm =
    let size = frame_samples e.parameters in
    let next = next_encoder e pcm in
    ap {B = List Fields} (λ l. encode_fields e.parameters (histories e) pcm ∷ l)
    (frames-snoc n next (drop size pcm)
    ∙ ap
    (λ l. encoded_frames n next (drop size pcm) ++ (encode_fields e.parameters (histories (encoder_after n next (drop size pcm))) l ∷ []))
    (behind n size pcm))

-- ---- a call's output

module _ (e : SbcEncoder) (pcm : List ℤ) (output : List ℕ) where
  abbrev n : ℕ
  n = frames e pcm output

  abbrev size : ℕ
  size = frame_length e.parameters

  length-written : length (pack_all e.parameters (encoded_frames n e pcm)) ≡ n * size
  length-written = length-frames n e pcm e.parameters

  -- the frames fit into the output
  pub frames-fit : n * size ≤ length output
  frames-fit = fits_out (length pcm) (frame_samples e.parameters) (length output) size

  -- it keeps its length
  pub length-encode : length (encode e pcm output).output ≡ length output
  unfolding encode_frames
  length-encode =
      encode-cases (λ r. length r.output ≡ length output) e pcm output (λ _. refl) (λ _ _. refl)
      (λ _ _. length-append (pack_all e.parameters (encoded_frames n e pcm)) (drop (n * size) output)
      ∙ omega (arith, length-written, length-drop (n * size) output, frames-fit))

  -- the bytes behind the frames stay
  pub frames-untouched : drop (n * size) (encode_frames n e pcm output).output ≡ drop (n * size) output
  unfolding encode_frames
  frames-untouched =
      drop_at (pack_all e.parameters (encoded_frames n e pcm)) (drop (n * size) output) (n * size)
      length-written

  -- so do those behind what a call produced
  pub encode-untouched : (progress : Progress) → (encode e pcm output).answer ≡ gives progress
      → drop progress.produced (encode e pcm output).output ≡ drop progress.produced output
  unfolding encode_frames progress_of
  encode-untouched progress =
      encode-cases (λ r. r.answer ≡ gives progress → drop progress.produced r.output ≡ drop progress.produced output) e pcm output
      (λ _ _. refl) (λ _ _ _. refl)
      (λ _ _ q.
      let same : n * size ≡ progress.produced = ap (λ x. x.produced) (gives_same _ progress q) in
      subst (λ k. drop k (encode_frames n e pcm output).output ≡ drop k output) same frames-untouched)
