-- What a decode call writes: only the places of the frames that it takes; and what its output's old contents do not change.
-- Assumes nothing.
use Prim.Native.Nat.{ℕ, zero, suc, ◌+◌, ◌-◌, ◌*◌, ◌≤◌, max}
use mathlib.Core.Path.{◌≡◌, refl, sym, ap, ap₂, ◌∙◌}
use mathlib.Core.List.{List, ◌++◌}
use native.Mathlib.Nat.{zero-mul}
use native.Mathlib.Omega.{arith}
use lib.IntN.{ℤ}
use lib.ListN.{length, take, drop, length-drop}
use lib.Seq.{length-take-le, take-append-add, drop-drop}
use Rattle.laws.specs.Answers.{gives}
use Rattle.sbc_parameters.specs.Parameters.{channels}
use Rattle.sbc_parameters.specs.Sizes.{frame_length, frame_samples}
use Rattle.sbc_parameters.proofs.Accepted.{frame-samples-range}
use Rattle.sbc_frame.specs.Layout.{unpack}
use Rattle.codec.specs.Answers.{progress_of, add_progress}
use Rattle.sbc_look.specs.Look.{look}
use Rattle.sbc_decoder.specs.Decode.{with_parameters, with_synthesis, with_skip, dropped, next_decoder, next_output, unchanged, play, Turns, after_step, decode_turns, decode_all, answer_of, decode, places, reach_after, reach_turns, reach}
use Rattle.codec.specs.declared.Progress.{Progress}
use Rattle.sbc_decoder.specs.declared.SbcDecoder.{SbcDecoder}
use Rattle.sbc_decoder.proofs.Answering.{given-progress}
use Rattle.sbc_decoder.proofs.Taking.{turn-pairs, turn-cases, kept, gone-fits, take_next, length-next, beyond-next, drop-both}

-- ---- the places that a call writes

drop-further : {A : Type 0} (a b : ℕ) (xs ys : List A) → drop a xs ≡ drop a ys → a ≤ b → drop b xs ≡ drop b ys
drop-further a b xs ys e h =
    let s : b ≡ a + (b - a) = omega arith in
    ap (λ k. drop k xs) s ∙ sym (drop-drop (b - a) a xs) ∙ ap (drop (b - a)) e ∙ drop-drop (b - a) a ys ∙ ap (λ k. drop k ys) (sym s)

-- a frame's places and then the rest's
reach-both : {A : Type 0} (m size far : ℕ) (o rest output : List A) → m ≤ size → length (take m o) ≡ m → drop far rest ≡ drop far (drop m o)
    → drop size o ≡ drop size output → drop (max size (m + far)) (take m o ++ rest) ≡ drop (max size (m + far)) output
reach-both m size far o rest output fits long behind beyond =
    let all = max size (m + far) in
    let q = all - m in
    let s : all ≡ m + q = omega arith in
    ap (λ k. drop k (take m o ++ rest)) s ∙ drop-both m q (take m o) rest long
    ∙ drop-further far q rest (drop m o) behind (omega arith)
    ∙ drop-drop q m o ∙ ap (λ k. drop k o) (sym s) ∙ drop-further size all o output beyond (omega arith)

take-both : {A : Type 0} (m k : ℕ) (xs ys : List A) → length xs ≡ m → take (m + k) (xs ++ ys) ≡ xs ++ take k ys
take-both m k xs ys e = ap (λ n. take (n + k) (xs ++ ys)) (sym e) ∙ take-append-add xs ys k

-- of a call's output before it, its frames and its reach
record Reached (d : SbcDecoder) (output : List ℤ) (r : Turns) (place : ℕ) : Type 0 where
  same-behind : drop place r.output ≡ drop place output
  in_reach : r.progress.produced ≤ place
  near : place ≤ r.progress.produced + 256
  inside : place ≤ length output
  no-skip : d.skip ≡ 0 → place ≡ r.progress.produced

turns-reached : (k : ℕ) (d : SbcDecoder) (input : List ℕ) (output : List ℤ)
    → Reached d output (decode_turns k d input output) (reach_turns k d input output)
unfolding decode_turns reach_turns after_step reach_after unchanged play progress_of add_progress places next_decoder with_parameters with_synthesis with_skip dropped
turns-reached zero d input output =
    record { same-behind = refl; in_reach = omega arith; near = omega arith; inside = omega arith; no-skip = λ _. refl }
turns-reached (suc k) d input output =
    turn-cases
    (λ t. Reached d output (after_step (decode_turns k) input t.decoder t.output t.step)
    (reach_after (reach_turns k) (places (look input)) input t.decoder t.output t.step))
    d input output
    (record { same-behind = refl; in_reach = omega arith; near = omega arith; inside = omega arith; no-skip = λ _. refl })
    (λ n. record { same-behind = refl; in_reach = omega arith; near = omega arith; inside = omega arith; no-skip = λ _. refl })
    (λ p a l fits room.
    let f = unpack p (take (frame_length p) input) in
    let o = next_output p d f output in
    let m = kept p d in
    let next = next_decoder p d f in
    let i = drop (frame_length p) input in
    let r = decode_turns k next i (drop m o) in
    let far = reach_turns k next i (drop m o) in
    let rest : Reached next (drop m o) r far = turns-reached k next i (drop m o) in
    rw l
    (record {
      same-behind =
          reach-both m (frame_samples p) far o r.output output (omega (arith, gone-fits p d))
          (length-take-le m o (omega (arith, length-next p d f output room))) rest.same-behind (beyond-next p d f output);
      in_reach = omega (arith, rest.in_reach);
      near = omega (arith, rest.near, frame-samples-range p a);
      inside = omega (arith, rest.inside, length-next p d f output room, length-drop m o, gone-fits p d);
      no-skip =
          λ z.
          let none : dropped p d ≡ 0 = omega (arith, z) in
          let all : dropped p d * channels p ≡ 0 = ap (λ k. k * channels p) none ∙ zero-mul (channels p) in
          omega (arith, all, rest.no-skip (omega (arith, z)));
    }))

module _ (d : SbcDecoder) (input : List ℕ) (output : List ℤ) where
  reached : Reached d output (decode_all d input output) (reach d input output)
  unfolding decode_all reach
  reached = turns-reached (length input) d input output

  -- nothing is written from there on
  pub decode-untouched : drop (reach d input output) (decode d input output).output ≡ drop (reach d input output) output
  unfolding decode
  decode-untouched = reached.same-behind

  -- it lies inside of the output
  pub reach-inside : reach d input output ≤ length output
  reach-inside = reached.inside

  module _ (progress : Progress) (given : (decode d input output).answer ≡ gives progress) where
    produced-is : (decode_all d input output).progress.produced ≡ progress.produced
    unfolding decode
    produced-is =
        let r = decode_all d input output in
        ap (λ x. x.produced) (given-progress r.progress progress r.ending given)

    -- it is at most one frame's places behind what was produced
    pub reach_near : (progress.produced ≤ reach d input output) × (reach d input output ≤ progress.produced + 256)
    reach_near = (omega (arith, produced-is, reached.in_reach), omega (arith, produced-is, reached.near))

    -- and without a pending skip just what was produced
    pub reach-produced : d.skip ≡ 0 → reach d input output ≡ progress.produced
    reach-produced z = reached.no-skip z ∙ produced-is

-- ---- the output's old contents

-- two calls that differ in them only
record SameTurns (r₁ r₂ : Turns) : Type 0 where
  progress : r₁.progress ≡ r₂.progress
  decoder : r₁.decoder ≡ r₂.decoder
  ending : r₁.ending ≡ r₂.ending
  heard : take r₁.progress.produced r₁.output ≡ take r₂.progress.produced r₂.output

turns_same : (k : ℕ) (d : SbcDecoder) (input : List ℕ) (o₁ o₂ : List ℤ) → length o₁ ≡ length o₂
    → SameTurns (decode_turns k d input o₁) (decode_turns k d input o₂)
unfolding decode_turns after_step unchanged play progress_of add_progress
turns_same zero d input o₁ o₂ same = record { progress = refl; decoder = refl; ending = refl; heard = refl }
turns_same (suc k) d input o₁ o₂ same =
    turn-pairs
    (λ t u. SameTurns (after_step (decode_turns k) input t.decoder t.output t.step)
    (after_step (decode_turns k) input u.decoder u.output u.step))
    d input o₁ o₂ same
    (record { progress = refl; decoder = refl; ending = refl; heard = refl })
    (λ n. record { progress = refl; decoder = refl; ending = refl; heard = refl })
    (λ p a l fits room.
    let f = unpack p (take (frame_length p) input) in
    let m = kept p d in
    let x = next_output p d f o₁ in
    let y = next_output p d f o₂ in
    let lx : length x ≡ length o₁ = length-next p d f o₁ room in
    let ly : length y ≡ length o₂ = length-next p d f o₂ (omega (arith, same, room)) in
    let left : length (drop m x) ≡ length (drop m y) = length-drop m x ∙ omega (arith, lx, ly, same) ∙ sym (length-drop m y) in
    let front : take m x ≡ take m y = take_next p d f o₁ ∙ sym (take_next p d f o₂) in
    let next = next_decoder p d f in
    let i = drop (frame_length p) input in
    let rx = decode_turns k next i (drop m x) in
    let ry = decode_turns k next i (drop m y) in
    let rest : SameTurns rx ry = turns_same k next i (drop m x) (drop m y) left in
    record {
      progress = ap (add_progress (progress_of (frame_length p) m)) rest.progress;
      decoder = rest.decoder;
      ending = rest.ending;
      heard =
          take-both m rx.progress.produced (take m x) rx.output (length-take-le m x (omega (arith, lx, room)))
          ∙ ap₂ {C = List ℤ} (λ u v. u ++ v) front rest.heard
          ∙ sym (take-both m ry.progress.produced (take m y) ry.output (length-take-le m y (omega (arith, ly, same, room))));
    })

all_same : (d : SbcDecoder) (input : List ℕ) (o₁ o₂ : List ℤ) → length o₁ ≡ length o₂ → SameTurns (decode_all d input o₁) (decode_all d input o₂)
unfolding decode_all
all_same d input o₁ o₂ same = turns_same (length input) d input o₁ o₂ same

-- answer, next decoder and the samples that are produced depend on the output's length only
pub decode-by-length : (d : SbcDecoder) (input : List ℕ) (o₁ o₂ : List ℤ) → length o₁ ≡ length o₂
    → let r₁ = decode d input o₁ in
    let r₂ = decode d input o₂ in
    (r₁.answer ≡ r₂.answer) × (r₁.decoder ≡ r₂.decoder)
    × ((progress : Progress) → r₁.answer ≡ gives progress → take progress.produced r₁.output ≡ take progress.produced r₂.output)
unfolding decode
decode-by-length d input o₁ o₂ same =
    (ap₂ answer_of both.progress both.ending, both.decoder, heard)
  where
    both : SameTurns (decode_all d input o₁) (decode_all d input o₂)
    both = all_same d input o₁ o₂ same

    heard : (progress : Progress) → (decode d input o₁).answer ≡ gives progress
        → take progress.produced (decode d input o₁).output ≡ take progress.produced (decode d input o₂).output
    heard progress given =
        let e : (decode_all d input o₁).progress.produced ≡ progress.produced = produced-is d input o₁ progress given in
        let e₂ : (decode_all d input o₂).progress.produced ≡ progress.produced = ap (λ x. x.produced) (sym both.progress) ∙ e in
        ap (λ k. take k (decode_all d input o₁).output) (sym e) ∙ both.heard ∙ ap (λ k. take k (decode_all d input o₂).output) e₂
