-- `SbcEncoder::encode` meets its contract where its parameters are accepted and the output has a frame: the answer is that of the frames that both buffers hold.
-- Assumes nothing.
use Prim.Native.Nat.{ℕ, ◌*◌, ◌/◌, ◌≤◌, min}
use mathlib.Core.Path.{◌≡◌, sym, ap, ap₂, subst, ◌∙◌}
use mathlib.Core.Bool.{true}
use mathlib.Core.List.{List, ◌++◌}
use native.Mathlib.Omega.{arith}
use lib.IntN.{ℤ}
use lib.ListN.{length, drop}
use borrow.Author.Tests.{le-ltb}
use Rattle.laws.specs.Answers.{gives}
use Rattle.sbc_parameters.specs.Parameters.{accepted}
use Rattle.sbc_parameters.specs.Sizes.{frame_length, frame_samples}
use Rattle.sbc_parameters.proofs.Accepted.{frame-length-range, frame-samples-range}
use Rattle.codec.specs.Answers.{whole_frames, progress_of}
use Rattle.sbc_encoder.specs.Encode.{encoder_after, encoded_frames, pack_all, encode_frames, encode}
use Rattle.sbc_encoder.specs.Told.{encoder_with}
use Rattle.sbc_filterbank.specs.declared.analysis.Analysis.{Analysis}
use Rattle.sbc_encoder.specs.declared.SbcEncoder.{SbcEncoder}
use Rattle.codec.proofs.Fitting.{fits_in}
use Rattle.sbc_encoder.proofs.Writing.{frames, frames-fit}
use Rattle.sbc_encoder.proofs.SbcEncoder.encode.Goals as goal

-- a number of frames of k samples, with what the code has for it and for k
count_is : (e : SbcEncoder) (input : List ℤ) (output : List ℕ) (n samples size : ℕ)
    → samples ≡ frame_samples e.parameters → size ≡ frame_length e.parameters
    → n ≡ min (length input / samples) (length output / size) → n ≡ frames e input output
unfolding whole_frames
count_is e input output n samples size s z h =
    h ∙ ap₂ (λ samples bytes. min (length input / samples) (length output / bytes)) s z

-- they fit into both
reads : (e : SbcEncoder) (input : List ℤ) (output : List ℕ) (n : ℕ) → n ≡ frames e input output
    → n * frame_samples e.parameters ≤ length input
unfolding whole_frames
reads e input output n h =
    subst (λ n. n * frame_samples e.parameters ≤ length input) (sym h)
    (fits_in (length input) (frame_samples e.parameters) (length output) (frame_length e.parameters))

fills : (e : SbcEncoder) (input : List ℤ) (output : List ℕ) (n : ℕ) → n ≡ frames e input output
    → n * frame_length e.parameters ≤ length output
fills e input output n h = subst (λ n. n * frame_length e.parameters ≤ length output) (sym h) (frames-fit e input output)

pub nonzero_div-input : goal.nonzero_div-input
nonzero_div-input c =
    let a = c.in_ok-accepted.accepted in
    omega (arith, c.frame_samples-samples.ensures, (frame-samples-range a.set a.is_accepted).0)

pub nonzero_div-output : goal.nonzero_div-output
nonzero_div-output c =
    let a = c.in_ok-accepted.accepted in
    omega (arith, c.frame_length-length.ensures, (frame-length-range a.set a.is_accepted).0)

pub encode_frames-requires : goal.encode_frames-requires
encode_frames-requires c =
    let e = c.args.self.now in
    let same = c.in_ok-accepted.ensures.0 in
    let h =
    count_is e c.args.input.now c.args.output.now c.min-count.result _ _ (c.frame_samples-samples.ensures ∙ ap frame_samples same)
    (c.frame_length-length.ensures ∙ ap frame_length same) c.min-count.ensures in
    rw same (reads e c.args.input.now c.args.output.now _ h, fills e c.args.input.now c.args.output.now _ h)

-- after the frames: the encoder and the output are those of the call
pub returns : goal.returns
unfolding progress_of encode_frames encode
returns c =
    let e : SbcEncoder = c.args.self.now in
    let input : List ℤ = c.args.input.now in
    let output : List ℕ = c.args.output.now in
    let same = c.in_ok-accepted.ensures.0 in
    let size : c.frame_length-length.result ≡ frame_length e.parameters = c.frame_length-length.ensures ∙ ap frame_length same in
    let rate : c.frame_samples-samples.result ≡ frame_samples e.parameters = c.frame_samples-samples.ensures ∙ ap frame_samples same in
    let n : ℕ = frames e input output in
    let after : List Analysis = c.encode_frames.new.histories in
    let filled : List ℕ = c.encode_frames.new.output in
    let h : c.min-count.result ≡ n = count_is e input output c.min-count.result _ _ rate size c.min-count.ensures in
    let hears : encoder_with e.parameters after ≡ encoder_after n e input =
    subst (λ k. encoder_with e.parameters after ≡ encoder_after k e input) h (rw same at c.encode_frames.ensures.encoder) in
    let writes : filled ≡ pack_all e.parameters (encoded_frames n e input) ++ drop (n * frame_length e.parameters) output =
    subst
    (λ k. filled ≡ pack_all e.parameters (encoded_frames k e input) ++ drop (k * frame_length e.parameters) output)
    h (rw same at c.encode_frames.ensures.output) in
    let consumes = ap₂ ◌*◌ h rate in
    let produces = ap₂ ◌*◌ h size in
    let yes : accepted e.parameters ≡ true = rw same at c.in_ok-accepted.accepted.is_accepted in
    rw (yes, le-ltb (length output) (frame_length e.parameters) (omega (arith, size, c.if-output-length.false)))
    (λ i. record { answer = gives (record { consumed = consumes i; produced = produces i }); encoder = hears i; output = writes i })
