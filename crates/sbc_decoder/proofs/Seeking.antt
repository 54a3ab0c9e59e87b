-- What a seek makes of the decoder, by its answer.
-- Assumes nothing.
use Prim.Native.Nat.{ℕ}
use mathlib.Core.Path.{◌≡◌, refl}
use mathlib.Core.Bool.{false}
use Rattle.laws.specs.Answers.{gives, refuses}
use Rattle.sbc_seek.specs.Seek.{seek_request}
use Rattle.std.specs.Prelude.{Option, None, Some}
use Rattle.sbc_parameters.specs.declared.SbcParameters.{SbcParameters}
use Rattle.sbc_seek.specs.declared.SeekRequest.{SeekRequest}
use Rattle.sbc_seek.proofs.Seeking.{first-skips-none}
use Rattle.sbc_decoder.specs.Decode.{cleared, new_decoder, with_synthesis, with_finishing, with_skip}
use Rattle.sbc_decoder.specs.Seek.{reset, resumed, sought_decoder, seek_answered, seek}
use Rattle.sbc_decoder.specs.declared.SbcDecoder.{SbcDecoder}

-- a decoder that is resumed is the one sought: with nothing decoded yet nothing is skipped, and it is as created
resumed-sought : (last : Option SbcParameters) (d : SbcDecoder) (position : ℕ) (request : SeekRequest) → d.parameters ≡ last
    → seek_request last position ≡ gives request → resumed request.skip_frames d ≡ sought_decoder last request d
unfolding seek_request sought_decoder reset resumed new_decoder with_synthesis with_finishing with_skip
resumed-sought None d position request none h =
    let nothing = first-skips-none position request h in
    λ i. record { parameters = none i; synthesis = cleared; finishing = false; skip = nothing i }
resumed-sought (Some p) d position request some h = refl

module _ (d : SbcDecoder) (position : ℕ) where
  -- one that is answered with a request
  pub seek-given : (request : SeekRequest) → seek_request d.parameters position ≡ gives request
      → seek d position ≡ record { answer = gives request; decoder = resumed request.skip_frames d }
  unfolding seek seek_answered
  seek-given request h =
      rw (h, resumed-sought d.parameters d position request refl h)

  -- one that is refused
  pub seek-turned-away : (n : ℕ) → seek_request d.parameters position ≡ refuses n
      → seek d position ≡ record { answer = refuses n; decoder = d }
  unfolding seek seek_answered
  seek-turned-away n h = rw h

pub ruleset seeking = (seek-given, seek-turned-away)

-- each field of a decoder that is resumed
pub resumed-is : (skip : ℕ) (d : SbcDecoder)
    → resumed skip d ≡ record { parameters = d.parameters; synthesis = cleared; finishing = false; skip = skip }
unfolding resumed with_synthesis with_finishing with_skip
resumed-is skip d = refl

pub ruleset resuming = (resumed-is)
