-- The decode call after one that gave a progress, on the rest of both buffers: it answers at once what the tests say of that rest, which is
-- a refusal or that no frame is whole, and changes nothing.
-- Assumes nothing.
use Prim.Native.Nat.{ℕ, ◌+◌}
use mathlib.Core.Path.{◌≡◌, sym, ap, subst, ◌∙◌}
use mathlib.Core.List.{List, ◌++◌}
use native.Mathlib.Omega.{arith}
use lib.IntN.{ℤ}
use lib.ListN.{length, take, drop}
use lib.Seq.{drop-drop, length-take-le}
use Rattle.laws.specs.Answers.{gives}
use Rattle.sbc_parameters.specs.Sizes.{frame_length}
use Rattle.sbc_frame.specs.Layout.{unpack}
use Rattle.codec.specs.Answers.{progress_of, add_progress, refused_after}
use Rattle.codec.specs.declared.Progress.{Progress}
use Rattle.sbc_look.specs.Next.{Decision, no_frame, refusal, next}
use Rattle.sbc_look.proofs.Deciding.{next-cases}
use Rattle.sbc_decoder.specs.Decode.{with_parameters, with_synthesis, with_skip, next_decoder, next_output, Step, none_whole, refused, play}
use Rattle.sbc_decoder.specs.Decode.{unchanged, turn_by, decode_next, Turns, after_step, decode_all, answer_of, decode}
use Rattle.sbc_decoder.specs.declared.SbcDecoder.{SbcDecoder}
use Rattle.sbc_decoder.proofs.Answering.{given-progress}
use Rattle.sbc_decoder.proofs.Taking.{kept, length-next, drop-both, length_some, decode-unrolled, stopped, decode-induction}
use Rattle.sbc.specs.Refusals.{Stopped, at_a_fault, at_no_frame}

-- what the tests say, and the turns of a call that takes no frame
data Stops (d : SbcDecoder) (output : List ℤ) : Decision → Turns → Type 0 where
  stops_fault : (n : ℕ) → Stops d output (refusal n) (stopped (refused n) d output)
  stops_end : Stops d output no_frame (stopped none_whole d output)

-- such a call
stops-here : (d : SbcDecoder) (input : List ℕ) (output : List ℤ) (s : Step) → decode_all d input output ≡ stopped s d output
    → Stops d output (next d.finishing input (length output)) (decode_all d input output)
unfolding decode_next turn_by after_step unchanged play progress_of add_progress
stops-here d input output s h =
    subst (Stops d output (next d.finishing input (length output))) (sym (decode-unrolled d input output))
    (next-cases
    (λ x. let t = turn_by x d input output in
    let r = after_step decode_all input t.decoder t.output t.step in
    r ≡ stopped s d output → Stops d output x r)
    d.finishing input (length output)
    (λ e. stops_end)
    (λ n e. stops_fault n)
    (λ p a l fits room e. absurd (omega (arith, length_some p, ap (λ r. r.progress.consumed) e)))
    (sym (decode-unrolled d input output) ∙ h))

-- the call behind any call
stops-next : (d : SbcDecoder) (input : List ℕ) (output : List ℤ)
    → let r = decode_all d input output in
    let input' = drop r.progress.consumed input in
    let output' = drop r.progress.produced r.output in
    Stops r.decoder output' (next d.finishing input' (length output')) (decode_all r.decoder input' output')
unfolding progress_of add_progress play next_decoder with_parameters with_synthesis with_skip
stops-next =
    decode-induction
    (λ d input output r.
    let input' = drop r.progress.consumed input in
    let output' = drop r.progress.produced r.output in
    Stops r.decoder output' (next d.finishing input' (length output')) (decode_all r.decoder input' output'))
    stops-here
    (λ d input output p a fits room rest.
    let f = unpack p (take (frame_length p) input) in
    let o = next_output p d f output in
    let r = decode_all (play p d f output).decoder (drop (frame_length p) input) (drop (kept p d) o) in
    let long : length (take (kept p d) o) ≡ kept p d = length-take-le (kept p d) o (omega (arith, length-next p d f output room)) in
    let out : drop (kept p d + r.progress.produced) (take (kept p d) o ++ r.output) ≡ drop r.progress.produced r.output =
    drop-both (kept p d) r.progress.produced (take (kept p d) o) r.output long in
    let inp : drop (frame_length p + r.progress.consumed) input ≡ drop r.progress.consumed (drop (frame_length p) input) =
    sym (drop-drop r.progress.consumed (frame_length p) input) in
    rw (out, inp) rest)

-- what it answers
stops-stopped : {d : SbcDecoder} {output : List ℤ} {x : Decision} {r : Turns} → Stops d output x r
    → Stopped d output x (record { answer = answer_of r.progress r.ending; decoder = r.decoder; output = r.output })
unfolding answer_of refused_after progress_of
stops-stopped (stops_fault n) = at_a_fault n
stops-stopped stops_end = at_no_frame

-- it meets what stopped the call before it
pub next-decode-meets : (d : SbcDecoder) (input : List ℕ) (output : List ℤ) (progress : Progress)
    → (decode d input output).answer ≡ gives progress
    → let r = decode d input output in
    let input' = drop progress.consumed input in
    let output' = drop progress.produced r.output in
    Stopped r.decoder output' (next d.finishing input' (length output')) (decode r.decoder input' output')
unfolding decode
next-decode-meets d input output progress given =
    let r = decode_all d input output in
    subst
    (λ (k : Progress).
    let input' = drop k.consumed input in
    let output' = drop k.produced r.output in
    Stopped r.decoder output' (next d.finishing input' (length output')) (decode r.decoder input' output'))
    (given-progress r.progress progress r.ending given)
    (stops-stopped (stops-next d input output))
