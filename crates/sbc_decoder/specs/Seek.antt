-- Reset and seek: from the decoder and the position to the answer and the next decoder.
-- From document 01, "Calls" and "Given back".
use Rattle.std.specs.Prelude.{ℕ, false, Option, None, Some, Result}
use Rattle.laws.specs.Answers.{Told, gives, refuses}
use Rattle.codec.specs.Answers.{told}
use Rattle.codec.specs.declared.Error.{Error}
use Rattle.sbc_parameters.specs.declared.SbcParameters.{SbcParameters}
use Rattle.sbc_seek.specs.Seek.{seek_request}
use Rattle.sbc_seek.specs.declared.SeekRequest.{SeekRequest}
use Rattle.sbc_decoder.specs.Decode.{cleared, new_decoder, with_synthesis, with_finishing, with_skip}
use Rattle.sbc_decoder.specs.declared.SbcDecoder.{SbcDecoder}

-- ---- reset: a decoder as created

unfoldable pub reset : SbcDecoder → SbcDecoder
reset d = new_decoder

-- ---- seek

-- both histories cleared, finishing off, the skip pending; the parameters remain
unfoldable pub resumed : ℕ → SbcDecoder → SbcDecoder
resumed skip d = with_synthesis cleared (with_finishing false (with_skip skip d))

-- the decoder after a seek that is answered with a request; with nothing decoded yet it is reset
unfoldable pub sought_decoder : Option SbcParameters → SeekRequest → SbcDecoder → SbcDecoder
sought_decoder None request d = reset d
sought_decoder (Some p) request d = resumed request.skip_frames d

-- a seek: its answer, and the decoder that it leaves
pub record Sought : Type 0 where
  pub answer : Told SeekRequest
  pub decoder : SbcDecoder

-- by its answer; a refusal leaves all unchanged
unfoldable pub seek_answered : Told SeekRequest → SbcDecoder → Sought
seek_answered (gives request) d = record { answer = gives request; decoder = sought_decoder d.parameters request d }
seek_answered (refuses n) d = record { answer = refuses n; decoder = d }

-- the whole call
unfoldable pub seek : SbcDecoder → ℕ → Sought
seek d position = seek_answered (seek_request d.parameters position) d

-- what the code gives back, with the decoder at exit, in these terms
abbrev pub told_sought : Result SeekRequest Error → SbcDecoder → Sought
told_sought r d = record { answer = told r; decoder = d }
