-- Demand 1 (README.md, "Refusals") of the decoder's and the encoder's calls, and of validate: which refusal is answered, that it changes
-- nothing, that the next call meets the fault, and what a call writes. `parse` has no state, and its refusals are those of its contract
-- (`Header.parse`).
-- From document 01, "Calls" and "Given back". A sentence of it stands in quotes above what it became, or above the part that is said here.
use Rattle.std.specs.Prelude.{ℕ, ◌^◌, ◌≤◌, ◌<◌, max, ◌↔◌, ◌≡◌, true, false, List, ltb, ℤ, length, drop, if◌then◌else◌, None, Some}
use Rattle.laws.specs.Answers.{gives, refuses}
use Rattle.sbc_parameters.specs.Parameters.{accepted, validate}
use Rattle.sbc_parameters.specs.Sizes.{frame_length}
use Rattle.sbc_parameters.specs.declared.SbcParameters.{SbcParameters}
use Rattle.codec.specs.Answers.{progress_of}
use Rattle.codec.specs.declared.Progress.{Progress}
use Rattle.sbc_look.specs.Next.{Decision, no_frame, refusal, next}
use Rattle.sbc_seek.specs.Seek.{seek_offset}
use Rattle.sbc_decoder.specs.Decode.{Decoded, decode, reach}
use Rattle.sbc_decoder.specs.Seek.{seek}
use Rattle.sbc_decoder.specs.declared.SbcDecoder.{SbcDecoder}
use Rattle.sbc_encoder.specs.Encode.{new_encoder, encode}
use Rattle.sbc_encoder.specs.declared.SbcEncoder.{SbcEncoder}

-- ---- "Returned", "When": the refusal that 01 names, and no other

pub record FirstFault : Type 0 where
  -- "Decode order: 3 bytes, header, length, output, checksum": the first of these that fails at the front of the input, as `next` says
  pub of_decode : (d : SbcDecoder) (input : List ℕ) (output : List ℤ) (n : ℕ)
      → ((decode d input output).answer ≡ refuses n) ↔ (next d.finishing input (length output) ≡ refusal n)
  -- "seek: nothing decoded yet and position not 0"
  pub of_first_seek : (d : SbcDecoder) (position n : ℕ) → d.parameters ≡ None
      → ((seek d position).answer ≡ refuses n) ↔ ((n ≡ 1) × (0 < position))
  -- "seek: byte offset over u64"
  pub of_seek : (d : SbcDecoder) (p : SbcParameters) (position n : ℕ) → d.parameters ≡ Some p → accepted p ≡ true
      → ((seek d position).answer ≡ refuses n) ↔ ((n ≡ 3) × (2 ^ 64 ≤ seek_offset p position))
  -- "encode: output under one frame, even with no input"
  pub of_encode : (e : SbcEncoder) (pcm : List ℤ) (output : List ℕ) (n : ℕ) → accepted e.parameters ≡ true
      → ((encode e pcm output).answer ≡ refuses n) ↔ ((n ≡ 5) × (length output < frame_length e.parameters))
  -- "new encoder or validate: set not accepted"
  pub of_new : (p : SbcParameters) (n : ℕ) → (new_encoder p ≡ refuses n) ↔ ((n ≡ 3) × (accepted p ≡ false))
  pub of_validate : (p : SbcParameters) (n : ℕ) → (validate p ≡ refuses n) ↔ ((n ≡ 3) × (accepted p ≡ false))
  -- 01 has no encoder and no decoder of such a set. Ours can hold one (docs/DIFFERENCES.md, "Settled for the calls"), and then refuses
  -- likewise
  pub of_refused_set : (e : SbcEncoder) (pcm : List ℤ) (output : List ℕ) → accepted e.parameters ≡ false
      → (encode e pcm output).answer ≡ refuses 3
  pub of_refused_seek : (d : SbcDecoder) (p : SbcParameters) (position : ℕ) → d.parameters ≡ Some p → accepted p ≡ false
      → (seek d position).answer ≡ refuses 3

-- ---- "Unchanged" covers state and every lent buffer; a new encoder and validate are given neither

pub record RefusedUnchanged : Type 0 where
  pub of_decode : (d : SbcDecoder) (input : List ℕ) (output : List ℤ) (n : ℕ) → (decode d input output).answer ≡ refuses n
      → ((decode d input output).decoder ≡ d) × ((decode d input output).output ≡ output)
  pub of_seek : (d : SbcDecoder) (position n : ℕ) → (seek d position).answer ≡ refuses n → (seek d position).decoder ≡ d
  pub of_encode : (e : SbcEncoder) (pcm : List ℤ) (output : List ℕ) (n : ℕ) → (encode e pcm output).answer ≡ refuses n
      → ((encode e pcm output).encoder ≡ e) × ((encode e pcm output).output ≡ output)

-- ---- "If a frame was accepted earlier in the call, the progress is returned instead". Where that is so, the next call, on the rest of
-- both buffers and with the state as it was left, answers the fault that stopped this one, and changes nothing

-- what `next` says of the rest, and the decode call that it stops at once: with that refusal, or with (0, 0). That a frame is played it
-- never says of the rest: "Decode takes frames until none is whole"
pub data Stopped (d : SbcDecoder) (output : List ℤ) : Decision → Decoded → Type 0 where
  at_a_fault : (n : ℕ) → Stopped d output (refusal n) (record { answer = refuses n; decoder = d; output = output })
  at_no_frame : Stopped d output no_frame (record { answer = gives (progress_of 0 0); decoder = d; output = output })

pub record NextCallMeetsFault : Type 0 where
  pub of_decode : (d : SbcDecoder) (input : List ℕ) (output : List ℤ) (progress : Progress)
      → (decode d input output).answer ≡ gives progress
      → let r = decode d input output in
      let input' = drop progress.consumed input in
      let output' = drop progress.produced r.output in
      Stopped r.decoder output' (next d.finishing input' (length output')) (decode r.decoder input' output')
  pub of_encode : (e : SbcEncoder) (pcm : List ℤ) (output : List ℕ) (progress : Progress) → (encode e pcm output).answer ≡ gives progress
      → let r = encode e pcm output in
      let output' = drop progress.produced r.output in
      encode r.encoder (drop progress.consumed pcm) output'
      ≡ record {
        answer = if ltb (length output') (frame_length e.parameters) then refuses 5 else gives (progress_of 0 0);
        encoder = r.encoder;
        output = output';
      }

-- ---- the part that a call writes

-- an output keeps its length, and from place k on what it held
abbrev pub KeptFrom : {A : Type 0} → ℕ → List A → List A → Type 0
KeptFrom k output exit = (length exit ≡ length output) × (drop k exit ≡ drop k output)

pub record WritesOnly : Type 0 where
  -- "A frame writes the first `frame_samples` places left": nothing behind the last of them, which `reach` counts
  pub of_decode : (d : SbcDecoder) (input : List ℕ) (output : List ℤ)
      → KeptFrom (reach d input output) output (decode d input output).output
  -- with no pending skip they are the produced ones
  pub unskipped : (d : SbcDecoder) (input : List ℕ) (output : List ℤ) (progress : Progress)
      → (decode d input output).answer ≡ gives progress → d.skip ≡ 0 → reach d input output ≡ progress.produced
  -- with one also "the places behind them, up to `frame_samples`", which is at most 256 for every frame
  pub skipped : (d : SbcDecoder) (input : List ℕ) (output : List ℤ) (progress : Progress) → (decode d input output).answer ≡ gives progress
      → (progress.produced ≤ reach d input output) × (reach d input output ≤ max progress.produced 256)
  -- "Encode writes as many frames as both buffers hold": nothing behind those that it says it produced
  pub of_encode : (e : SbcEncoder) (pcm : List ℤ) (output : List ℕ) (progress : Progress) → (encode e pcm output).answer ≡ gives progress
      → KeptFrom progress.produced output (encode e pcm output).output

-- ---- all of it
pub record Demand1 : Type 0 where
  pub first : FirstFault
  pub refused : RefusedUnchanged
  pub following : NextCallMeetsFault
  pub written : WritesOnly
