-- What encode writes decode takes: each frame that is written is accepted.
-- Assumes nothing.
use Prim.Native.Nat.{ℕ, zero, suc, ◌+◌, ◌*◌, ◌<◌}
use mathlib.Core.Path.{◌≡◌, sym, ap, ◌∙◌}
use mathlib.Core.Bool.{true}
use mathlib.Core.List.{List, [], ◌∷◌, ◌++◌, append_assoc}
use native.Mathlib.Nat.{zero-mul, lt_of_mul-lt-mul_right}
use native.Mathlib.Omega.{arith}
use lib.IntN.{ℤ}
use lib.ListN.{length, drop, length-append}
use lib.Seq.{drop_at}
use Rattle.laws.specs.Answers.{gives}
use Rattle.laws.proofs.Answers.{gives_same, gives-refuses}
use Rattle.sbc_parameters.specs.Parameters.{accepted}
use Rattle.sbc_parameters.specs.Sizes.{frame_length}
use Rattle.sbc_parameters.specs.declared.SbcParameters.{SbcParameters}
use Rattle.sbc_frame.specs.Fields.{Fields}
use Rattle.sbc_frame.specs.Layout.{pack}
use Rattle.sbc_frame.proofs.Written.{length-pack, cut-pack}
use Rattle.codec.specs.Answers.{progress_of}
use Rattle.sbc_encoder.specs.Encode.{encoded_frames, pack_all, encode_frames, encode}
use Rattle.sbc_look.specs.Look.{whole, look}
use Rattle.codec.specs.declared.Progress.{Progress}
use Rattle.sbc_encoder.specs.declared.SbcEncoder.{SbcEncoder}
use Rattle.sbc_encoder.proofs.Writing.{frames-count, frames, behind, encode-cases}
use Rattle.sbc.proofs.Looking.{look-whole}

-- a frame that is written is accepted, whatever comes behind it: its parameters are read back, it is whole, and its checksum agrees
pub look-pack : (p : SbcParameters) (f : Fields) (rest : List ℕ) → accepted p ≡ true → look (pack p f ++ rest) ≡ whole p true
look-pack p f rest a =
    let l : length (pack p f ++ rest) ≡ frame_length p + length rest =
    length-append (pack p f) rest ∙ ap (λ k. k + length rest) (length-pack p f) in
    look-whole p a (pack p f ++ rest) f (cut-pack p f rest) (omega (arith, l))

-- so is the first of the frames that are written
pub encode-accepted : (p : SbcParameters) (f : Fields) (fs : List Fields) (rest : List ℕ) → accepted p ≡ true
    → look (pack_all p (f ∷ fs) ++ rest) ≡ whole p true
unfolding pack_all
encode-accepted p f fs rest a = ap look (append_assoc (pack p f) (pack_all p fs) rest) ∙ look-pack p f (pack_all p fs ++ rest) a

-- and each of them
pub frames-accepted : (p : SbcParameters) (fs : List Fields) (rest : List ℕ) (i : ℕ) → accepted p ≡ true → i < length fs
    → look (drop (i * frame_length p) (pack_all p fs ++ rest)) ≡ whole p true
unfolding pack_all
frames-accepted p [] rest i a h = absurd (omega arith)
frames-accepted p (f ∷ fs) rest zero a h =
    ap (λ k. look (drop k (pack_all p (f ∷ fs) ++ rest))) (zero-mul (frame_length p)) ∙ encode-accepted p f fs rest a
frames-accepted p (f ∷ fs) rest (suc i) a h =
    let next : drop (frame_length p) ((pack p f ++ pack_all p fs) ++ rest) ≡ pack_all p fs ++ rest =
    ap (drop (frame_length p)) (append_assoc (pack p f) (pack_all p fs) rest)
    ∙ drop_at (pack p f) (pack_all p fs ++ rest) (frame_length p) (length-pack p f) in
    ap look (sym (behind i (frame_length p) ((pack p f ++ pack_all p fs) ++ rest)) ∙ ap (drop (i * frame_length p)) next)
    ∙ frames-accepted p fs rest i a (omega arith)

module _ (e : SbcEncoder) (pcm : List ℤ) (output : List ℕ) where
  abbrev n : ℕ
  n = frames e pcm output

  abbrev size : ℕ
  size = frame_length e.parameters

  -- each frame of a call is accepted
  pub call-accepted : (progress : Progress) (i : ℕ) → (encode e pcm output).answer ≡ gives progress
      → i * size < progress.produced
      → look (drop (i * size) (encode e pcm output).output) ≡ whole e.parameters true
  unfolding encode_frames progress_of
  call-accepted progress i =
      encode-cases
      (λ r. r.answer ≡ gives progress → i * size < progress.produced
      → look (drop (i * size) r.output) ≡ whole e.parameters true)
      e pcm output
      (λ a q h. absurd (gives-refuses progress 3 (sym q)))
      (λ a l q h. absurd (gives-refuses progress 5 (sym q)))
      (λ a _ q h.
      let same : n * size ≡ progress.produced = ap (λ x. x.produced) (gives_same _ progress q) in
      let few : i < n = lt_of_mul-lt-mul_right size (omega (arith, same, h)) in
      frames-accepted e.parameters (encoded_frames n e pcm) (drop (n * size) output) i a
      (omega (arith, frames-count n e pcm, few)))
