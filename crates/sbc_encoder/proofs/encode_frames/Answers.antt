-- `encode_frames` meets its contract. The invariant: the histories are those after i frames, and the frames stand in front of what the output
-- held.
-- Assumes nothing.
use Prim.Native.Nat.{ℕ, ◌+◌, ◌-◌, ◌*◌, ◌≤◌}
use mathlib.Core.Path.{◌≡◌, sym, ap, subst, ◌∙◌}
use mathlib.Core.List.{List}
use native.Mathlib.Nat.{suc-mul, mul-le-mul_right, le_trans}
use native.Mathlib.Omega.{arith}
use lib.IntN.{ℤ}
use lib.ListN.{length, take, drop, length-drop}
use borrow.Rule.Slice.PartMut.{put_mid, mid_len}
use Rattle.std.specs.Prelude.{map}
use Rattle.sbc_parameters.specs.Sizes.{frame_samples}
use Rattle.sbc_parameters.specs.declared.SbcParameters.{SbcParameters}
use Rattle.sbc_filterbank.specs.declared.analysis.Analysis.{Analysis}
use Rattle.sbc_frame.specs.Layout.{pack}
use Rattle.sbc_frame.specs.Encoding.{encode_fields, analysis_histories}
use Rattle.sbc_encoder.proofs.Framing.{Framing, no_frame, next-frame}
use Rattle.laws.proofs.Parts.{tail-part}
use Rattle.sbc_encoder.proofs.encode_frames.Goals as goal

-- n numbers a turn, of which count turns have room in m: the turn i has room
room : (count i n k m : ℕ) → n ≡ k → count * k ≤ m → i + 1 ≤ count → (i + 1) * n ≤ m
room count i n k m e fits h = le_trans (mul-le-mul_right n h) (subst (λ x. count * x ≤ m) (sym e) fits)

pub loop-i-init : goal.loop-i-init
loop-i-init c = (omega arith, no_frame _ _ _ _)

pub encode_frame-requires : goal.encode_frame-requires
encode_frame-requires c =
    let i : ℕ = c.loop-i.i in
    let samples : ℕ = c.frame_samples-samples.result in
    let size : ℕ = c.frame_length-length.result in
    let input : List ℤ = c.args.input.now in
    let some_left : (i + 1) * samples ≤ length input =
    room c.args.count i _ _ _ c.frame_samples-samples.ensures c.requires.0 (omega arith) in
    let room-left : (i + 1) * size ≤ length c.loop-i.output =
    omega (arith, room c.args.count i _ _ _ c.frame_length-length.ensures c.requires.1 (omega arith), c.loop-i.auto.output) in (
      omega (arith, ap length (tail-part (i * samples) input), length-drop (i * samples) input, some_left, suc-mul i samples),
      mid_len (i * size) ((i + 1) * size) c.loop-i.output room-left ∙ omega (arith, suc-mul i size),
    )

pub loop-i-preserved : goal.loop-i-preserved
loop-i-preserved c =
    let a = c.args in
    let p : SbcParameters = a.accepted.set in
    let i : ℕ = c.loop-i.i in
    let samples : ℕ = c.frame_samples-samples.result in
    let input : List ℤ = a.input.now in
    let rest : List ℤ = drop (i * frame_samples p) input in
    let before : List (List ℤ) = map (λ a. a.history) c.loop-i.histories in
    let after : List Analysis = c.encode_frame.new.histories in
    let frame : List ℕ = c.encode_frame.new.frame in
    let part : take (length input - i * samples) (drop (i * samples) input) ≡ rest =
    tail-part (i * samples) input ∙ ap (λ k. drop (i * k) input) c.frame_samples-samples.ensures in
    let hears : map (λ a. a.history) after ≡ analysis_histories p before rest =
    subst (λ x. map (λ a. a.history) after ≡ analysis_histories p before x) part c.encode_frame.ensures.histories in
    let bytes : frame ≡ pack p (encode_fields p before rest) =
    subst (λ x. frame ≡ pack p (encode_fields p before x)) part c.encode_frame.ensures.frame in (
      omega arith,
      subst
          (λ k. Framing p a.histories.now input a.output.now after (put_mid (i * k) ((i + 1) * k - i * k) c.loop-i.output frame) (i + 1))
          (sym c.frame_length-length.ensures)
          (next-frame _ _ _ _ c.loop-i.invariant.1 after frame hears bytes),
    )

pub returns : goal.returns
returns c =
    let l = c.loop-i in
    let a = c.args in
    let done : l.i ≡ a.count = omega arith in
    let t = subst (Framing a.accepted.set a.histories.now a.input.now a.output.now l.histories l.output) done l.invariant.1 in
    record { encoder = t.encoder; output = t.written }
