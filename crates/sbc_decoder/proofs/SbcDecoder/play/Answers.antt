-- `SbcDecoder::play` meets its contract: the frame's samples are decoded into the first places, and those that are to be dropped left out.
-- Assumes nothing.
use Prim.Native.Nat.{◌-◌, ◌*◌, min}
use mathlib.Core.Path.{◌≡◌, ap, ap₂, ◌∙◌}
use mathlib.Core.List.{List, ◌++◌}
use native.Mathlib.Omega.{arith}
use lib.IntN.{ℤ}
use lib.ListN.{take, drop}
use Rattle.std.specs.Prelude.{Some}
use Rattle.sbc_parameters.specs.Parameters.{channels}
use Rattle.sbc_parameters.specs.Sizes.{frame_samples}
use Rattle.sbc_frame.specs.Layout.{unpack}
use Rattle.sbc_frame.specs.Decoding.{decode_fields, synthesis_histories}
use Rattle.codec.specs.Answers.{progress_of}
use Rattle.sbc_decoder.specs.Decode.{with_parameters, with_synthesis, with_skip, start_histories, dropped, next_decoder, next_output}
use Rattle.sbc_decoder.specs.Decode.{taken, play}
use Rattle.sbc_decoder.proofs.Taking.{gone, kept, samples}
use Rattle.sbc_decoder.proofs.Playing.{left_out, gone-le, gone-small}
use borrow.Author.Rules.{rules}
use Rattle.sbc_decoder.proofs.SbcDecoder.play.Goals as goal

pub overflow_mul-gone : goal.overflow_mul-gone
unfolding with_synthesis
overflow_mul-gone c =
    let p = c.args.frame.accepted.set in
    let d = c.args.self.now in
    let drops = c.min-dropped.ensures ∙ ap₂ min (ap (λ x. x.skip) c.start_histories.ensures) c.samples_per_channel.ensures in
    let all : c.min-dropped.result * c.from.result ≡ c.min-dropped.result * channels p =
    ap (λ n. c.min-dropped.result * n) (c.from.ensures ∙ c.channels.ensures) in
    omega (arith, all, gone-small p d c.min-dropped.result drops c.args.frame.accepted.is_accepted)

pub leave_out-requires : goal.leave_out-requires
unfolding with_synthesis
leave_out-requires c =
    let p = c.args.frame.accepted.set in
    let d = c.args.self.now in
    let drops = c.min-dropped.ensures ∙ ap₂ min (ap (λ x. x.skip) c.start_histories.ensures) c.samples_per_channel.ensures in
    let all : c.min-dropped.result * c.from.result ≡ c.min-dropped.result * channels p =
    ap (λ n. c.min-dropped.result * n) (c.from.ensures ∙ c.channels.ensures) in
    (omega (arith, all, gone-le p d c.min-dropped.result drops, c.frame_samples-samples.ensures), search rules)

pub overflow_sub-result : goal.overflow_sub-result
unfolding with_synthesis
overflow_sub-result c =
    let p = c.args.frame.accepted.set in
    let d = c.args.self.now in
    let drops = c.min-dropped.ensures ∙ ap₂ min (ap (λ x. x.skip) c.start_histories.ensures) c.samples_per_channel.ensures in
    let all : c.min-dropped.result * c.from.result ≡ c.min-dropped.result * channels p =
    ap (λ n. c.min-dropped.result * n) (c.from.ensures ∙ c.channels.ensures) in
    omega (arith, all, gone-le p d c.min-dropped.result drops, c.frame_samples-samples.ensures)

pub returns : goal.returns
unfolding play progress_of next_decoder with_parameters with_synthesis with_skip dropped
returns c =
    let p = c.args.frame.accepted.set in
    let d = c.args.self.now in
    let f = unpack p c.args.frame.bytes.now in
    let output : List ℤ = c.args.output.now in
    let written : List ℤ = c.decode_frame.new.output in
    let begins : c.start_histories.new.self.synthesis ≡ start_histories p d = ap (λ x. x.synthesis) c.start_histories.ensures in
    let hears : c.decode_frame.new.histories ≡ synthesis_histories p (start_histories p d) f =
    c.decode_frame.ensures.histories ∙ ap (λ h. synthesis_histories p h f) begins in
    let written_is : written ≡ samples p d f output ++ drop (frame_samples p) output =
    c.decode_frame.ensures.output ∙ ap (λ h. decode_fields p h f ++ drop (frame_samples p) output) begins in
    let skip : c.start_histories.new.self.skip ≡ d.skip = ap (λ x. x.skip) c.start_histories.ensures in
    let drops : c.min-dropped.result ≡ dropped p d = c.min-dropped.ensures ∙ ap₂ min skip c.samples_per_channel.ensures in
    let leaves : c.min-dropped.result * c.from.result ≡ gone p d = ap₂ (λ x y. x * y) drops (c.from.ensures ∙ c.channels.ensures) in
    let keeps : c.frame_samples-samples.result - c.min-dropped.result * c.from.result ≡ kept p d =
    ap₂ (λ x y. x - y) c.frame_samples-samples.ensures leaves in
    let writes : c.leave_out.new.output ≡ next_output p d f output =
    c.leave_out.ensures
    ∙ ap₂ (λ n g. take n (drop g written) ++ drop n written) keeps leaves
    ∙ ap (λ w. take (kept p d) (drop (gone p d) w) ++ drop (kept p d) w) written_is
    ∙ left_out p d f output in
    let consumes = c.args.frame.whole in
    let finishes = ap (λ x. x.finishing) c.start_histories.ensures in
    let skips = ap₂ (λ x y. x - y) skip drops in
    λ i. record {
      step = taken (record { consumed = consumes i; produced = keeps i });
      decoder = record { parameters = Some p; synthesis = hears i; finishing = finishes i; skip = skips i };
      output = writes i;
    }
