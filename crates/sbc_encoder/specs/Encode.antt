-- The encoder and its call: from the encoder, the PCM and the output at entry to the answer, the next encoder and the output at exit.
-- From document 01, "Calls" and "Given back".
use Rattle.std.specs.Prelude.{ℕ, zero, suc, ◌*◌, List, [], ◌∷◌, ◌++◌, map, ltb, ℤ, length, drop, replicate, if◌then◌else◌}
use Rattle.laws.specs.Answers.{Told, gives, refuses}
use Rattle.sbc_parameters.specs.Parameters.{accepted}
use Rattle.sbc_parameters.specs.Sizes.{frame_length, frame_samples}
use Rattle.sbc_parameters.specs.declared.SbcParameters.{SbcParameters}
use Rattle.sbc_frame.specs.Fields.{Fields}
use Rattle.sbc_frame.specs.Layout.{pack}
use Rattle.sbc_frame.specs.Channels.{no_analysis}
use Rattle.sbc_frame.specs.Encoding.{encode_fields, analysis_histories}
use Rattle.codec.specs.Answers.{progress_of, whole_frames}
use Rattle.codec.specs.declared.Progress.{Progress}
use Rattle.sbc_encoder.specs.declared.SbcEncoder.{SbcEncoder}

-- ---- the encoder

-- the histories by channel
unfoldable pub histories : SbcEncoder → List (List ℤ)
histories e = map (λ a. a.history) e.analysis

-- the encoder with other histories
unfoldable pub with_histories : SbcEncoder → List (List ℤ) → SbcEncoder
with_histories e hs = record { parameters = e.parameters; analysis = map (λ h. record { history = h }) hs }

-- as created from a set, with silence in both channels; whether the set is accepted is another matter (`new_encoder`)
unfoldable pub encoder_of : SbcParameters → SbcEncoder
encoder_of p = record { parameters = p; analysis = replicate 2 (record { history = no_analysis }) }

-- a new encoder: InvalidParameter where the set is not accepted
unfoldable pub new_encoder : SbcParameters → Told SbcEncoder
new_encoder p = if accepted p then gives (encoder_of p) else refuses 3

-- reset: silence again, the parameters stay
unfoldable pub reset_encoder : SbcEncoder → SbcEncoder
reset_encoder e = encoder_of e.parameters

-- ---- n frames, one after the other

-- the encoder after a frame
unfoldable pub next_encoder : SbcEncoder → List ℤ → SbcEncoder
next_encoder e pcm = with_histories e (analysis_histories e.parameters (histories e) pcm)

-- the encoder after n frames
unfoldable pub encoder_after : ℕ → SbcEncoder → List ℤ → SbcEncoder
encoder_after zero e pcm = e
encoder_after (suc n) e pcm = encoder_after n (next_encoder e pcm) (drop (frame_samples e.parameters) pcm)

-- the fields of n frames
unfoldable pub encoded_frames : ℕ → SbcEncoder → List ℤ → List Fields
encoded_frames zero e pcm = []
encoded_frames (suc n) e pcm =
    encode_fields e.parameters (histories e) pcm ∷ encoded_frames n (next_encoder e pcm) (drop (frame_samples e.parameters) pcm)

-- frames as bytes, end to end
unfoldable pub pack_all : SbcParameters → List Fields → List ℕ
pack_all p [] = []
pack_all p (f ∷ fs) = pack p f ++ pack_all p fs

-- ---- the call

-- a call: its answer, and what it leaves
pub record Encoded : Type 0 where
  pub answer : Told Progress
  pub encoder : SbcEncoder
  pub output : List ℕ

-- as many frames as both buffers hold; the bytes behind them stay
unfoldable pub encode_frames : ℕ → SbcEncoder → List ℤ → List ℕ → Encoded
encode_frames n e pcm output =
    let p = e.parameters in
    record {
      answer = gives (progress_of (n * frame_samples p) (n * frame_length p));
      encoder = encoder_after n e pcm;
      output = pack_all p (encoded_frames n e pcm) ++ drop (n * frame_length p) output;
    }

-- a set that is not accepted, which no encoder that was created has: InvalidParameter; an output under one frame: BufferTooSmall, even
-- with no input; both leave all unchanged
unfoldable pub encode : SbcEncoder → List ℤ → List ℕ → Encoded
encode e pcm output =
    let p = e.parameters in
    if accepted p then
    (if ltb (length output) (frame_length p) then record { answer = refuses 5; encoder = e; output = output }
    else encode_frames (whole_frames (length pcm) (frame_samples p) (length output) (frame_length p)) e pcm output)
    else
    record { answer = refuses 3; encoder = e; output = output }
