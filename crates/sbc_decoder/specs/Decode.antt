-- The decoder and its call: from the decoder, the bytes and the output at entry to the answer, the next decoder and the output at exit.
-- From document 01, "Calls" and "Given back".
use Rattle.std.specs.Prelude.{ℕ, zero, suc, ◌+◌, ◌-◌, ◌*◌, min, max, Bool, true, false, List, ◌++◌, eqb, ℤ, length, take, drop}
use Rattle.std.specs.Prelude.{replicate, if◌then◌else◌, Option, None, Some}
use Rattle.laws.specs.Answers.{Told, gives}
use Rattle.sbc_parameters.specs.Parameters.{channels}
use Rattle.sbc_parameters.specs.Sizes.{frame_length, samples_per_channel, frame_samples}
use Rattle.sbc_parameters.specs.declared.SbcParameters.{SbcParameters}
use Rattle.sbc_filterbank.specs.declared.synthesis.Synthesis.{Synthesis}
use Rattle.sbc_frame.specs.Fields.{Fields}
use Rattle.sbc_frame.specs.Layout.{unpack}
use Rattle.sbc_frame.specs.Channels.{no_synthesis}
use Rattle.sbc_frame.specs.Decoding.{decode_fields, synthesis_histories}
use Rattle.codec.specs.Answers.{progress_of, add_progress, refused_after}
use Rattle.codec.specs.declared.Progress.{Progress}
use Rattle.sbc_look.specs.Look.{Look, cut, bad, whole, look}
use Rattle.sbc_look.specs.Next.{Decision, no_frame, refusal, plays, next}
use Rattle.sbc_decoder.specs.declared.SbcDecoder.{SbcDecoder}

-- ---- the decoder, and its fields set one by one

-- both channels silent
unfoldable pub cleared : List Synthesis
cleared = replicate 2 no_synthesis

-- a decoder as created
unfoldable pub new_decoder : SbcDecoder
new_decoder = record { parameters = None; synthesis = cleared; finishing = false; skip = 0 }

unfoldable pub with_parameters : Option SbcParameters → SbcDecoder → SbcDecoder
with_parameters p d = record { parameters = p; synthesis = d.synthesis; finishing = d.finishing; skip = d.skip }

unfoldable pub with_synthesis : List Synthesis → SbcDecoder → SbcDecoder
with_synthesis hs d = record { parameters = d.parameters; synthesis = hs; finishing = d.finishing; skip = d.skip }

unfoldable pub with_finishing : Bool → SbcDecoder → SbcDecoder
with_finishing b d = record { parameters = d.parameters; synthesis = d.synthesis; finishing = b; skip = d.skip }

unfoldable pub with_skip : ℕ → SbcDecoder → SbcDecoder
with_skip n d = record { parameters = d.parameters; synthesis = d.synthesis; finishing = d.finishing; skip = n }

-- the setter of finishing sets that flag and nothing else
unfoldable pub finish : SbcDecoder → SbcDecoder
finish d = with_finishing true d

-- ---- playing a frame

-- a frame's subbands are those of the last accepted frame
unfoldable pub same_subbands : SbcParameters → Option SbcParameters → Bool
same_subbands p None = false
same_subbands p (Some q) = eqb q.subbands p.subbands

-- the histories that a frame begins with: cleared when the subbands differ from the last accepted frame's, and not when the channel
-- count does
unfoldable pub start_histories : SbcParameters → SbcDecoder → List Synthesis
start_histories p d = if same_subbands p d.parameters then d.synthesis else cleared

-- samples of each channel that a pending skip drops: as many as the skip or the frame has
unfoldable pub dropped : SbcParameters → SbcDecoder → ℕ
dropped p d = min d.skip (samples_per_channel p)

-- the decoder after a frame
unfoldable pub next_decoder : SbcParameters → SbcDecoder → Fields → SbcDecoder
next_decoder p d f =
    with_parameters (Some p) (with_synthesis (synthesis_histories p (start_histories p d) f) (with_skip (d.skip - dropped p d) d))

-- the frame's samples stand in the first places; the kept ones then move to the front, and the places behind them, up to
-- frame_samples, keep what was just written there
unfoldable pub next_output : SbcParameters → SbcDecoder → Fields → List ℤ → List ℤ
next_output p d f output =
    let pcm = decode_fields p (start_histories p d) f in
    let gone = dropped p d * channels p in
    drop gone pcm ++ (drop (frame_samples p - gone) pcm ++ drop (frame_samples p) output)

-- how a turn of decode went: no whole frame, a refusal, or a frame that was taken
pub data Step : Type 0 where
  none_whole : Step
  refused : ℕ → Step
  taken : Progress → Step

-- a turn: how it went, and what it leaves
pub record Turn : Type 0 where
  pub step : Step
  pub decoder : SbcDecoder
  pub output : List ℤ

-- a frame taken
unfoldable pub play : SbcParameters → SbcDecoder → Fields → List ℤ → Turn
play p d f output =
    record {
      step = taken (progress_of (frame_length p) (frame_samples p - dropped p d * channels p));
      decoder = next_decoder p d f;
      output = next_output p d f output;
    }

-- ---- a turn of decode: the tests say what is to be done (`next`); a refusal leaves all unchanged

-- a turn that takes no frame
unfoldable pub unchanged : Step → SbcDecoder → List ℤ → Turn
unchanged step d output = record { step = step; decoder = d; output = output }

-- a turn, by what is to be done
unfoldable pub turn_by : Decision → SbcDecoder → List ℕ → List ℤ → Turn
turn_by no_frame d input output = unchanged none_whole d output
turn_by (refusal n) d input output = unchanged (refused n) d output
turn_by (plays p) d input output = play p d (unpack p (take (frame_length p) input)) output

-- a turn at the front of the input
unfoldable pub decode_next : SbcDecoder → List ℕ → List ℤ → Turn
decode_next d input output = turn_by (next d.finishing input (length output)) d input output

-- ---- frames until none is whole

-- the turns of a call: their progress together, and what they leave
pub record Turns : Type 0 where
  pub progress : Progress
  pub decoder : SbcDecoder
  pub output : List ℤ
  -- what stopped the call: none_whole or a refusal
  pub ending : Step

-- the rest of the call, on what a taken frame leaves
unfoldable pub after_step : (SbcDecoder → List ℕ → List ℤ → Turns) → List ℕ → SbcDecoder → List ℤ → Step → Turns
after_step go input d output none_whole = record { progress = progress_of 0 0; decoder = d; output = output; ending = none_whole }
after_step go input d output (refused n) = record { progress = progress_of 0 0; decoder = d; output = output; ending = refused n }
after_step go input d output (taken progress) =
    let rest = go d (drop progress.consumed input) (drop progress.produced output) in
    record {
      progress = add_progress progress rest.progress;
      decoder = rest.decoder;
      output = take progress.produced output ++ rest.output;
      ending = rest.ending;
    }

-- at most as many frames as the first argument says
unfoldable pub decode_turns : ℕ → SbcDecoder → List ℕ → List ℤ → Turns
decode_turns zero d input output = record { progress = progress_of 0 0; decoder = d; output = output; ending = none_whole }
decode_turns (suc n) d input output = let t = decode_next d input output in after_step (decode_turns n) input t.decoder t.output t.step

-- as many as there are: each takes at least one byte
unfoldable pub decode_all : SbcDecoder → List ℕ → List ℤ → Turns
decode_all d input output = decode_turns (length input) d input output

-- ---- the call: the progress, or the refusal where no frame was accepted before it

-- if a frame was accepted earlier in the call, the progress is returned instead
unfoldable pub answer_of : Progress → Step → Told Progress
answer_of progress none_whole = gives progress
answer_of progress (refused n) = refused_after progress n
answer_of progress (taken more) = gives progress

-- a call: its answer, and what it leaves
pub record Decoded : Type 0 where
  pub answer : Told Progress
  pub decoder : SbcDecoder
  pub output : List ℤ

-- the whole call
unfoldable pub decode : SbcDecoder → List ℕ → List ℤ → Decoded
decode d input output =
    let r = decode_all d input output in
    record { answer = answer_of r.progress r.ending; decoder = r.decoder; output = r.output }

-- ---- the places that a call writes

-- the places of the frame that stands in front
unfoldable pub places : Look → ℕ
places cut = 0
places (bad n) = 0
places (whole p good) = frame_samples p

-- nothing where no frame is taken; else the frame's places, or those that the rest reaches
unfoldable pub reach_after : (SbcDecoder → List ℕ → List ℤ → ℕ) → ℕ → List ℕ → SbcDecoder → List ℤ → Step → ℕ
reach_after go size input d output none_whole = 0
reach_after go size input d output (refused n) = 0
reach_after go size input d output (taken progress) =
    max size (progress.produced + go d (drop progress.consumed input) (drop progress.produced output))

-- of at most as many frames as the first argument says
unfoldable pub reach_turns : ℕ → SbcDecoder → List ℕ → List ℤ → ℕ
reach_turns zero d input output = 0
reach_turns (suc n) d input output =
    let t = decode_next d input output in
    reach_after (reach_turns n) (places (look input)) input t.decoder t.output t.step

-- the place behind the last that a call writes: the first frame_samples places, from where the frames before it ended, of each taken frame
unfoldable pub reach : SbcDecoder → List ℕ → List ℤ → ℕ
reach d input output = reach_turns (length input) d input output
