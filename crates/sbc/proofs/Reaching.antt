-- The place behind the last that a decode call writes: behind what was produced it lies in the first 256 places only.
-- Assumes nothing.
use Prim.Native.Nat.{ℕ, zero, suc, ◌+◌, ◌-◌, ◌*◌, ◌≤◌, ◌<◌, min, max}
use mathlib.Core.Path.{◌≡◌, refl, ap, ◌∙◌}
use mathlib.Core.Bool.{Bool, true, false}
use mathlib.Core.List.{List}
use native.Mathlib.Nat.{zero-mul}
use native.Mathlib.Omega.{arith}
use lib.Dec.{ltb}
use lib.IntN.{ℤ}
use lib.ListN.{length, take, drop}
use borrow.Author.Tests.{ltb-true, ltb-false}
use Rattle.laws.specs.Answers.{gives}
use Rattle.sbc_parameters.specs.Parameters.{channels}
use Rattle.sbc_parameters.specs.Sizes.{frame_length, samples_per_channel, frame_samples}
use Rattle.sbc_parameters.specs.declared.SbcParameters.{SbcParameters}
use Rattle.sbc_parameters.proofs.Accepted.{frame-samples-range}
use Rattle.sbc_frame.specs.Layout.{unpack}
use Rattle.codec.specs.Answers.{progress_of, add_progress}
use Rattle.codec.specs.declared.Progress.{Progress}
use Rattle.sbc_look.specs.Look.{look}
use Rattle.sbc_decoder.specs.Decode.{with_parameters, with_synthesis, with_skip, dropped, next_decoder, next_output, unchanged, play}
use Rattle.sbc_decoder.specs.Decode.{Turns, after_step, decode_turns, decode_all, decode, places, reach_after, reach_turns, reach}
use Rattle.sbc_decoder.specs.declared.SbcDecoder.{SbcDecoder}
use Rattle.sbc_decoder.proofs.Answering.{given-progress}
use Rattle.sbc_decoder.proofs.Taking.{turn-cases, kept}
use Rattle.sbc.proofs.Untouched.{reach_near}

-- a frame that leaves a skip pending keeps no sample, so only the first 256 places are written beside the produced ones
near-next : (p : SbcParameters) (d : SbcDecoder) (far produced : ℕ) → frame_samples p ≤ 256 → (d.skip - dropped p d ≡ 0 → far ≡ produced)
    → far ≤ max produced 256 → max (frame_samples p) (kept p d + far) ≤ max (kept p d + produced) 256
unfolding dropped frame_samples
near-next p d far produced small done h = go (ltb (samples_per_channel p) d.skip) refl
  where
    go : (t : Bool) → ltb (samples_per_channel p) d.skip ≡ t → max (frame_samples p) (kept p d + far) ≤ max (kept p d + produced) 256
    go true t =
        let l : samples_per_channel p < d.skip = ltb-true (samples_per_channel p) d.skip t in
        let all : min d.skip (samples_per_channel p) ≡ samples_per_channel p = omega arith in
        let gone : min d.skip (samples_per_channel p) * channels p ≡ samples_per_channel p * channels p = ap (λ k. k * channels p) all in
        omega (arith, gone)
    go false t =
        let l : d.skip ≤ samples_per_channel p = ltb-false (samples_per_channel p) d.skip t in
        omega (arith, done (omega arith))

-- of a call's decoder before it, its frames and its reach
record Within (d : SbcDecoder) (r : Turns) (place : ℕ) : Type 0 where
  near : place ≤ max r.progress.produced 256
  no-skip : d.skip ≡ 0 → place ≡ r.progress.produced

turns-within : (k : ℕ) (d : SbcDecoder) (input : List ℕ) (output : List ℤ)
    → Within d (decode_turns k d input output) (reach_turns k d input output)
unfolding decode_turns reach_turns after_step reach_after unchanged play progress_of add_progress places next_decoder with_parameters
    with_synthesis with_skip dropped
turns-within zero d input output = record { near = omega arith; no-skip = λ _. refl }
turns-within (suc k) d input output =
    turn-cases
    (λ t. Within d (after_step (decode_turns k) input t.decoder t.output t.step)
    (reach_after (reach_turns k) (places (look input)) input t.decoder t.output t.step))
    d input output
    (record { near = omega arith; no-skip = λ _. refl })
    (λ n. record { near = omega arith; no-skip = λ _. refl })
    (λ p a l fits room.
    let f = unpack p (take (frame_length p) input) in
    let o = next_output p d f output in
    let next = next_decoder p d f in
    let i = drop (frame_length p) input in
    let r = decode_turns k next i (drop (kept p d) o) in
    let far = reach_turns k next i (drop (kept p d) o) in
    let rest : Within next r far = turns-within k next i (drop (kept p d) o) in
    rw l
    (record {
      near = near-next p d far r.progress.produced (frame-samples-range p a).1 rest.no-skip rest.near;
      no-skip =
          λ z.
          let none : dropped p d ≡ 0 = omega (arith, z) in
          let all : dropped p d * channels p ≡ 0 = ap (λ k. k * channels p) none ∙ zero-mul (channels p) in
          omega (arith, all, rest.no-skip (omega (arith, z)));
    }))

module _ (d : SbcDecoder) (input : List ℕ) (output : List ℤ) where
  all-within : Within d (decode_all d input output) (reach d input output)
  unfolding decode_all reach
  all-within = turns-within (length input) d input output

  -- it is behind what was produced, and behind that only in the first 256 places
  pub reach-within : (progress : Progress) → (decode d input output).answer ≡ gives progress
      → (progress.produced ≤ reach d input output) × (reach d input output ≤ max progress.produced 256)
  unfolding decode
  reach-within progress given =
      let r = decode_all d input output in
      let produced : r.progress.produced ≡ progress.produced =
      ap (λ x. x.produced) (given-progress r.progress progress r.ending given) in
      ((reach_near d input output progress given).0, omega (arith, produced, all-within.near))
