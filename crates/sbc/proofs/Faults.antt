-- Where decode and encode refuse, with which number, and that they refuse nowhere else; and what seek answers.
-- Assumes nothing.
use Prim.Native.Nat.{ℕ, ◌<◌}
use mathlib.Core.Logic.{◌↔◌}
use mathlib.Core.Path.{◌≡◌, refl, sym, ap, ◌∙◌}
use mathlib.Core.Bool.{true, false, false≢true}
use mathlib.Core.List.{List}
use native.Mathlib.Omega.{arith}
use lib.IntN.{ℤ}
use lib.ListN.{length, take, drop}
use borrow.Author.Tests.{lt-ltb}
use Rattle.laws.specs.Answers.{Told, gives, refuses}
use Rattle.laws.proofs.Answers.{gives-refuses, refuses-same}
use Rattle.sbc_parameters.specs.Parameters.{accepted}
use Rattle.sbc_parameters.specs.Sizes.{frame_length}
use Rattle.sbc_frame.specs.Layout.{unpack}
use Rattle.codec.specs.Answers.{progress_of, add_progress, refused_after}
use Rattle.codec.specs.declared.Progress.{Progress}
use Rattle.sbc_look.specs.Next.{Decision, refusal, next}
use Rattle.sbc_look.proofs.Deciding.{next-cases}
use Rattle.sbc_seek.specs.Seek.{seek_request}
use Rattle.sbc_seek.specs.declared.SeekRequest.{SeekRequest}
use Rattle.sbc_decoder.specs.Decode.{play, unchanged, turn_by, decode_next, after_step, decode_all, answer_of, decode}
use Rattle.sbc_decoder.specs.Seek.{seek_answered, seek}
use Rattle.sbc_decoder.specs.declared.SbcDecoder.{SbcDecoder}
use Rattle.sbc_decoder.proofs.Answering.{refused_none}
use Rattle.sbc_decoder.proofs.Taking.{kept, length_some, decode-unrolled}
use Rattle.sbc_encoder.specs.Encode.{encode_frames, encode}
use Rattle.sbc_encoder.specs.declared.SbcEncoder.{SbcEncoder}
use Rattle.sbc_encoder.proofs.Writing.{encode-cases}

-- ---- decode

-- what a decode call answers, by what is to be done with the front of its input
answer_by : SbcDecoder → List ℕ → List ℤ → Decision → Told Progress
answer_by d input output x =
    let t = turn_by x d input output in
    let r = after_step decode_all input t.decoder t.output t.step in
    answer_of r.progress r.ending

answer_is : (d : SbcDecoder) (input : List ℕ) (output : List ℤ)
    → (decode d input output).answer ≡ answer_by d input output (next d.finishing input (length output))
unfolding decode decode_next answer_by
answer_is d input output = ap (λ r. answer_of r.progress r.ending) (decode-unrolled d input output)

-- it refuses where the tests do, with their number, and nowhere else
pub decode-faults : (d : SbcDecoder) (input : List ℕ) (output : List ℤ) (n : ℕ)
    → ((decode d input output).answer ≡ refuses n) ↔ (next d.finishing input (length output) ≡ refusal n)
unfolding answer_by turn_by after_step unchanged play answer_of refused_after progress_of add_progress
decode-faults d input output n = (only, λ q. answer_is d input output ∙ ap (answer_by d input output) q)
  where
    only : (decode d input output).answer ≡ refuses n → next d.finishing input (length output) ≡ refusal n
    only q =
        next-cases (λ x. answer_by d input output x ≡ refuses n → x ≡ refusal n) d.finishing input (length output)
        (λ e. absurd (gives-refuses _ n e))
        (λ m e. ap refusal (refuses-same m n e))
        (λ p a l fits room e.
        let t = play p d (unpack p (take (frame_length p) input)) output in
        let rest = decode_all t.decoder (drop (frame_length p) input) (drop (kept p d) t.output) in
        let none = refused_none (add_progress (progress_of (frame_length p) (kept p d)) rest.progress) rest.ending n e in
        absurd (omega (arith, length_some p, none)))
        (sym (answer_is d input output) ∙ q)

-- ---- seek

-- a seek answers what its tests say
pub seek-answers : (d : SbcDecoder) (position : ℕ) → (seek d position).answer ≡ seek_request d.parameters position
unfolding seek seek_answered
seek-answers d position = go (seek_request d.parameters position)
  where
    go : (t : Told SeekRequest) → (seek_answered t d).answer ≡ t
    go (gives request) = refl
    go (refuses n) = refl

-- ---- encode

module _ (e : SbcEncoder) (pcm : List ℤ) (output : List ℕ) where
  -- a set that is not accepted
  pub encode-no-set : accepted e.parameters ≡ false → encode e pcm output ≡ record { answer = refuses 3; encoder = e; output = output }
  unfolding encode
  encode-no-set h = rw h

  -- an output under one frame
  pub encode-no-room : accepted e.parameters ≡ true → length output < frame_length e.parameters
      → encode e pcm output ≡ record { answer = refuses 5; encoder = e; output = output }
  unfolding encode
  encode-no-room a h = rw (a, lt-ltb (length output) (frame_length e.parameters) h)

  -- an accepted set refuses nothing else
  pub encode-faults : (n : ℕ) → accepted e.parameters ≡ true
      → ((encode e pcm output).answer ≡ refuses n) ↔ ((n ≡ 5) × (length output < frame_length e.parameters))
  unfolding encode_frames
  encode-faults n a = (
    encode-cases (λ r. r.answer ≡ refuses n → (n ≡ 5) × (length output < frame_length e.parameters)) e pcm output
        (λ f q. absurd (false≢true (sym f ∙ a))) (λ _ l q. (sym (refuses-same 5 n q), l)) (λ _ l q. absurd (gives-refuses _ n q)),
    λ q. ap (λ r. r.answer) (encode-no-room a q.1) ∙ ap refuses (sym q.0),
  )
