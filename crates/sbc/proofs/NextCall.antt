-- The call after a call, on the rest of both buffers: it answers what stopped the first one, and changes nothing.
-- Assumes nothing.
use Prim.Native.Nat.{ℕ, suc, ◌+◌, ◌-◌, ◌*◌, ◌/◌, ◌≤◌, ◌<◌, min}
use mathlib.Core.Path.{◌≡◌, sym, ap, ap₂, subst, ◌∙◌}
use mathlib.Core.Bool.{true, false≢true}
use mathlib.Core.List.{List, ◌++◌}
use native.Mathlib.Nat.{zero-mul, suc-mul, div-eq_of_lt, le-div_iff_mul-le, lt-div-mul-add}
use native.Mathlib.Omega.{arith}
use lib.Dec.{ltb}
use lib.IntN.{ℤ}
use lib.ListN.{length, take, drop, length-drop}
use lib.Seq.{drop-drop, length-take-le}
use borrow.Author.Tests.{lt-ltb, le-ltb}
use Rattle.std.specs.Prelude.{if◌then◌else◌}
use Rattle.laws.specs.Answers.{gives, refuses}
use Rattle.sbc_parameters.specs.Parameters.{accepted}
use Rattle.sbc_parameters.specs.Sizes.{frame_length, frame_samples}
use Rattle.sbc_parameters.proofs.Accepted.{frame-length-range, frame-samples-range}
use Rattle.sbc_frame.specs.Layout.{unpack}
use Rattle.codec.specs.Answers.{progress_of, add_progress, whole_frames}
use Rattle.sbc_encoder.specs.Encode.{Encoded, encode_frames, encode, encoder_after, encoded_frames, pack_all}
use Rattle.sbc_decoder.specs.Decode.{next_output, play, Turns, decode_all, answer_of, decode}
use Rattle.codec.specs.declared.Progress.{Progress}
use Rattle.sbc_encoder.specs.declared.SbcEncoder.{SbcEncoder}
use Rattle.sbc_decoder.specs.declared.SbcDecoder.{SbcDecoder}
use Rattle.laws.proofs.Answers.{gives_same, gives-refuses}
use Rattle.sbc_decoder.proofs.Taking.{kept, length-next, drop-both, stopped, decode-induction}
use Rattle.sbc_encoder.proofs.Writing.{frames, encode-cases, parameters-after, frames-untouched}

-- ---- decode

-- the decoder, input and output that a call leaves stop the loop at once, by the same ending
pub next-call : (d : SbcDecoder) (input : List ℕ) (output : List ℤ)
    → let r = decode_all d input output in
    let rest = drop r.progress.produced r.output in
    decode_all r.decoder (drop r.progress.consumed input) rest ≡ stopped r.ending r.decoder rest
unfolding progress_of add_progress play
next-call =
    decode-induction
    (λ d input output r.
    decode_all r.decoder (drop r.progress.consumed input) (drop r.progress.produced r.output)
    ≡ stopped r.ending r.decoder (drop r.progress.produced r.output))
    (λ d input output s e. e)
    (λ d input output p a fits room rest.
    let f = unpack p (take (frame_length p) input) in
    let o = next_output p d f output in
    let r = decode_all (play p d f output).decoder (drop (frame_length p) input) (drop (kept p d) o) in
    let long : length (take (kept p d) o) ≡ kept p d = length-take-le (kept p d) o (omega (arith, length-next p d f output room)) in
    let out : drop (kept p d + r.progress.produced) (take (kept p d) o ++ r.output) ≡ drop r.progress.produced r.output =
    drop-both (kept p d) r.progress.produced (take (kept p d) o) r.output long in
    let inp : drop (frame_length p + r.progress.consumed) input ≡ drop r.progress.consumed (drop (frame_length p) input) =
    sym (drop-drop r.progress.consumed (frame_length p) input) in
    rw (out, inp) rest)

-- so decode on the rest answers what stopped the call, and changes nothing
pub next-decode : (d : SbcDecoder) (input : List ℕ) (output : List ℤ)
    → let r = decode_all d input output in
    let rest = drop r.progress.produced r.output in
    decode r.decoder (drop r.progress.consumed input) rest
    ≡ record { answer = answer_of (progress_of 0 0) r.ending; decoder = r.decoder; output = rest }
unfolding decode
next-decode d input output =
    ap (λ (r : Turns). record { answer = answer_of r.progress r.ending; decoder = r.decoder; output = r.output }) (next-call d input output)

-- ---- encode

-- no frame fits the rest of both buffers
rest-frames : (a s b t : ℕ) → 0 < s → 0 < t → t ≤ b - whole_frames a s b t * t
    → whole_frames (a - whole_frames a s b t * s) s (b - whole_frames a s b t * t) t ≡ 0
unfolding whole_frames
rest-frames a s b t hs ht h =
    let n = whole_frames a s b t in
    let room : suc n ≤ b / t = (le-div_iff_mul-le ht).1 (omega (arith, suc-mul n t)) in
    let same : n ≡ a / s = omega (arith, room) in
    let few : a - n * s < s = omega (arith, lt-div-mul-add {a = a} hs, ap (λ k. k * s) same) in
    ap (λ k. min k ((b - n * t) / t)) (div-eq_of_lt few) ∙ omega arith

-- a call whose buffers do not both hold a frame
pub encode-none : (e : SbcEncoder) (pcm : List ℤ) (output : List ℕ) → accepted e.parameters ≡ true
    → (frame_length e.parameters ≤ length output → frames e pcm output ≡ 0)
    → encode e pcm output
    ≡ record {
      answer = if ltb (length output) (frame_length e.parameters) then refuses 5 else gives (progress_of 0 0);
      encoder = e;
      output = output;
    }
unfolding encode_frames encoder_after encoded_frames pack_all
encode-none e pcm output ok none =
    encode-cases
    (λ r. r
    ≡ record {
      answer = if ltb (length output) (frame_length e.parameters) then refuses 5 else gives (progress_of 0 0);
      encoder = e;
      output = output;
    })
    e pcm output
    (λ a. absurd (false≢true (sym a ∙ ok)))
    (λ a l. rw (lt-ltb (length output) (frame_length e.parameters) l))
    (λ a l.
    rw (le-ltb (length output) (frame_length e.parameters) l)
    (ap (λ k. encode_frames k e pcm output) (none l)
    ∙ rw (zero-mul (frame_samples e.parameters), zero-mul (frame_length e.parameters))))

-- after a call that was not refused, the rest of the output holds no frame, or the rest of the samples does not
pub next-encode : (e : SbcEncoder) (pcm : List ℤ) (output : List ℕ) (progress : Progress) → (encode e pcm output).answer ≡ gives progress
    → let r = encode e pcm output in
    let rest = drop progress.produced r.output in
    encode r.encoder (drop progress.consumed pcm) rest
    ≡ record {
      answer = if ltb (length rest) (frame_length e.parameters) then refuses 5 else gives (progress_of 0 0);
      encoder = r.encoder;
      output = rest;
    }
unfolding encode_frames progress_of
next-encode e pcm output progress =
    encode-cases (λ r. r.answer ≡ gives progress → Next r progress) e pcm output
    (λ a q. absurd (gives-refuses progress 3 (sym q))) (λ a l q. absurd (gives-refuses progress 5 (sym q)))
    (λ a l q. subst (Next (encode_frames n e pcm output)) (gives_same _ progress q) (after a))
  where
    n : ℕ
    n = frames e pcm output

    size : ℕ
    size = frame_length e.parameters

    samples : ℕ
    samples = frame_samples e.parameters

    Next : Encoded → Progress → Type 0
    Next r progress =
        encode r.encoder (drop progress.consumed pcm) (drop progress.produced r.output)
        ≡ record {
          answer = if ltb (length (drop progress.produced r.output)) size then refuses 5 else gives (progress_of 0 0);
          encoder = r.encoder;
          output = drop progress.produced r.output;
        }

    after : accepted e.parameters ≡ true → Next (encode_frames n e pcm output) (progress_of (n * samples) (n * size))
    after a =
        let next = encoder_after n e pcm in
        let rest = drop (n * size) (encode_frames n e pcm output).output in
        let left : length rest ≡ length output - n * size = ap length (frames-untouched e pcm output) ∙ length-drop (n * size) output in
        let none : size ≤ length rest → whole_frames (length (drop (n * samples) pcm)) samples (length rest) size ≡ 0 =
        λ h. ap₂ (λ x y. whole_frames x samples y size) (length-drop (n * samples) pcm) left
        ∙ rest-frames (length pcm) samples (length output) size (omega (arith, frame-samples-range e.parameters a))
        (omega (arith, frame-length-range e.parameters a)) (omega (arith, h, left)) in
        subst
        (λ p. encode next (drop (n * samples) pcm) rest
        ≡ record {
          answer = if ltb (length rest) (frame_length p) then refuses 5 else gives (progress_of 0 0);
          encoder = next;
          output = rest;
        })
        (parameters-after n e pcm)
        (encode-none next (drop (n * samples) pcm) rest (rw (parameters-after n e pcm) a) (rw (parameters-after n e pcm) none))
