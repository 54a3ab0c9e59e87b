-- A refusal of decode and of seek leaves all unchanged: the decoder, and the output of decode.
-- Assumes nothing.
use Prim.Native.Nat.{ℕ}
use mathlib.Core.Path.{◌≡◌, refl}
use mathlib.Core.List.{List}
use native.Mathlib.Omega.{arith}
use lib.IntN.{ℤ}
use Rattle.laws.specs.Answers.{Told, gives, refuses}
use Rattle.codec.specs.Answers.{progress_of, add_progress}
use Rattle.sbc_decoder.specs.Decode.{decode_all, decode}
use Rattle.sbc_seek.specs.Seek.{seek_request}
use Rattle.sbc_seek.specs.declared.SeekRequest.{SeekRequest}
use Rattle.sbc_decoder.specs.Seek.{seek_answered, seek}
use Rattle.sbc_decoder.specs.declared.SbcDecoder.{SbcDecoder}
use Rattle.laws.proofs.Answers.{gives-refuses}
use Rattle.sbc_decoder.proofs.Answering.{refused_none}
use Rattle.sbc_decoder.proofs.Taking.{length_some, decode-induction}

-- ---- decode

-- a call that consumes nothing changes nothing
pub idle : (d : SbcDecoder) (input : List ℕ) (output : List ℤ)
    → let r = decode_all d input output in r.progress.consumed ≡ 0 → (r.decoder ≡ d) × (r.output ≡ output)
unfolding progress_of add_progress
idle =
    decode-induction (λ d input output r. r.progress.consumed ≡ 0 → (r.decoder ≡ d) × (r.output ≡ output))
    (λ d input output s e z. (refl, refl))
    (λ d input output p a fits room rest z. absurd (omega (arith, length_some p)))

-- a refused decode call leaves the decoder and the output
pub decode-refused : (d : SbcDecoder) (input : List ℕ) (output : List ℤ) (n : ℕ) → (decode d input output).answer ≡ refuses n
    → ((decode d input output).decoder ≡ d) × ((decode d input output).output ≡ output)
unfolding decode
decode-refused d input output n q =
    let r = decode_all d input output in
    idle d input output (refused_none r.progress r.ending n q)

-- ---- seek

-- a seek that is answered with a refusal
stays : (answer : Told SeekRequest) (d : SbcDecoder) (n : ℕ) → (seek_answered answer d).answer ≡ refuses n
    → (seek_answered answer d).decoder ≡ d
unfolding seek_answered
stays (gives request) d n h = absurd (gives-refuses request n h)
stays (refuses m) d n h = refl

-- a refused seek leaves the decoder
pub seek-refused : (d : SbcDecoder) (position n : ℕ) → (seek d position).answer ≡ refuses n → (seek d position).decoder ≡ d
unfolding seek
seek-refused d position n = stays (seek_request d.parameters position) d n
