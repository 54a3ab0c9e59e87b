-- The decode call on a piece of a stream of written frames, with nothing to skip: it takes as many whole frames as fit, plays them one after the
-- other, and its ending goes by the lengths.
-- Assumes nothing.
use Prim.Native.Nat.{ℕ, zero, suc, ◌+◌, ◌-◌, ◌*◌, ◌≤◌, ◌<◌}
use mathlib.Core.Path.{◌≡◌, refl, sym, ap, ap₂, ◌∙◌}
use mathlib.Core.Bool.{Bool, true, false, ◌&&◌, not}
use mathlib.Core.List.{List, [], ◌∷◌, ◌++◌, append_assoc}
use native.Mathlib.Nat.{zero-mul, suc-mul, zero-min, sub-zero, le_trans, le_of_mul-le-mul_right}
use native.Mathlib.Omega.{arith}
use lib.Dec.{ltb, eqb}
use lib.IntN.{ℤ}
use lib.ListN.{length, take, drop, length-append, length-take, length-drop, drop_of_length-le}
use lib.Seq.{length-take-le, take_at, drop_at, drop-drop}
use borrow.Author.Tests.{ltb-true, ltb-false, lt-ltb, le-ltb}
use Rattle.std.specs.Prelude.{if◌then◌else◌}
use Rattle.laws.proofs.Cases.{by-test}
use Rattle.sbc_parameters.specs.declared.SbcParameters.{SbcParameters}
use Rattle.sbc_parameters.specs.Parameters.{channels, accepted}
use Rattle.sbc_parameters.specs.Sizes.{frame_length, samples_per_channel, frame_samples}
use Rattle.sbc_parameters.proofs.Accepted.{frame-length-range, frame-samples-range}
use Rattle.sbc_frame.specs.Fields.{Fields, WellFormed}
use Rattle.sbc_frame.specs.Decoding.{decode_fields}
use Rattle.sbc_frame.proofs.Coding.{length-decoded}
use Rattle.codec.specs.Answers.{progress_of, add_progress, whole_frames}
use Rattle.sbc_encoder.specs.Encode.{pack_all}
use Rattle.sbc_look.specs.Look.{cut, look}
use Rattle.sbc_look.specs.Next.{no_frame, refusal, next_short}
use Rattle.sbc_decoder.specs.Decode.{start_histories, dropped, next_decoder, next_output, Step, none_whole, refused, taken, play, unchanged}
use Rattle.sbc_decoder.specs.Decode.{with_parameters, with_synthesis, with_skip, turn_by, decode_next, Turns, after_step, decode_turns, decode_all}
use Rattle.sbc_decoder.specs.declared.SbcDecoder.{SbcDecoder}
use Rattle.codec.proofs.Fitting.{none_in, none_out, one_in, fits_in}
use Rattle.sbc_encoder.proofs.Writing.{length-pack_all}
use Rattle.sbc.proofs.Streams.{first_part, first_frame, piece-rest, rest-length, AllFit, none-fit, one-fits}
use Rattle.sbc.proofs.Looking.{look-short, look-cut, look-whole, header-pack, fields-whole, turn-cut, turn-full, turn-whole}

-- ---- frames played one after the other
module _ (p : SbcParameters) where
  unfoldable pub decoder_after : List Fields → SbcDecoder → SbcDecoder
  decoder_after [] d = d
  decoder_after (f ∷ fs) d = decoder_after fs (next_decoder p d f)

  unfoldable pub samples_of : List Fields → SbcDecoder → List ℤ
  samples_of [] d = []
  samples_of (f ∷ fs) d = decode_fields p (start_histories p d) f ++ samples_of fs (next_decoder p d f)

  -- what stops the call, with some bytes left: too few for a frame, or no room for the next one's samples
  unfoldable pub ending_for : Bool → ℕ → Step
  ending_for finishing left =
      if ltb left (frame_length p) then (if finishing && not (eqb left 0) then refused 1 else none_whole) else refused 5

  -- the first n frames of fs, from an input of a size
  unfoldable pub played : ℕ → List Fields → SbcDecoder → ℕ → List ℤ → Turns
  played n fs d size output =
      record {
        progress = progress_of (n * frame_length p) (n * frame_samples p);
        decoder = decoder_after (take n fs) d;
        output = samples_of (take n fs) d ++ drop (n * frame_samples p) output;
        ending = ending_for d.finishing (size - n * frame_length p);
      }

  -- a frame's samples, and the turns behind it
  unfoldable one_more : List ℤ → Turns → Turns
  one_more pcm rest =
      record {
        progress = add_progress (progress_of (frame_length p) (frame_samples p)) rest.progress;
        decoder = rest.decoder;
        output = pcm ++ rest.output;
        ending = rest.ending;
      }

-- ---- one frame taken
-- where there is nothing to skip
module _ (p : SbcParameters) (d : SbcDecoder) (unskipped : d.skip ≡ 0) (f : Fields) where
  none_dropped : dropped p d ≡ 0
  unfolding dropped
  none_dropped = rw unskipped (zero-min (samples_per_channel p))

  -- there is nothing to skip then either
  pub still-unskipped : (next_decoder p d f).skip ≡ 0
  unfolding next_decoder with_parameters with_synthesis with_skip
  still-unskipped = omega (arith, unskipped)

  abbrev pcm : List ℤ
  pcm = decode_fields p (start_histories p d) f

  pcm-length : length pcm ≡ frame_samples p
  pcm-length = length-decoded p (start_histories p d) f

  play-plain : (output : List ℤ) → play p d f output
      ≡ record { step = taken (progress_of (frame_length p) (frame_samples p)); decoder = next_decoder p d f; output = pcm ++ drop (frame_samples p) output }
  unfolding play next_output
  play-plain output =
      rw (none_dropped, zero-mul (channels p), sub-zero (frame_samples p), drop_of_length-le pcm {i = frame_samples p} (omega (arith, pcm-length)))

  -- the turns after it
  turns-step : (k : ℕ) (input : List ℕ) (output : List ℤ) → decode_next d input output ≡ play p d f output
      → decode_turns (suc k) d input output
      ≡ one_more p pcm (decode_turns k (next_decoder p d f) (drop (frame_length p) input) (drop (frame_samples p) output))
  unfolding decode_turns after_step progress_of one_more
  turns-step k input output e =
      ap (λ t. after_step (decode_turns k) input t.decoder t.output t.step) (e ∙ play-plain output)
      ∙ ap₂ {C = Turns}
      (λ front behind.
      let rest = decode_turns k (next_decoder p d f) (drop (frame_length p) input) behind in
      record {
        progress = add_progress (progress_of (frame_length p) (frame_samples p)) rest.progress;
        decoder = rest.decoder;
        output = front ++ rest.output;
        ending = rest.ending;
      })
      (take_at pcm (drop (frame_samples p) output) (frame_samples p) pcm-length)
      (drop_at pcm (drop (frame_samples p) output) (frame_samples p) pcm-length)

  -- played, one more
  played-step : (n : ℕ) (fs : List Fields) (size : ℕ) (output : List ℤ)
      → one_more p pcm (played p n fs (next_decoder p d f) (size - frame_length p) (drop (frame_samples p) output)) ≡ played p (suc n) (f ∷ fs) d size output
  unfolding played one_more decoder_after samples_of add_progress progress_of next_decoder with_parameters with_synthesis with_skip
  played-step n fs size output =
      let l : frame_length p + n * frame_length p ≡ suc n * frame_length p = omega (arith, suc-mul n (frame_length p)) in
      let m : frame_samples p + n * frame_samples p ≡ suc n * frame_samples p = omega (arith, suc-mul n (frame_samples p)) in
      let left : size - frame_length p - n * frame_length p ≡ size - suc n * frame_length p = omega (arith, l) in
      let more : List ℤ = samples_of p (take n fs) (next_decoder p d f) in
      let behind : drop (n * frame_samples p) (drop (frame_samples p) output) ≡ drop (suc n * frame_samples p) output =
      drop-drop (n * frame_samples p) (frame_samples p) output ∙ ap (λ k. drop k output) m in
      let out = sym (append_assoc pcm more (drop (n * frame_samples p) (drop (frame_samples p) output))) ∙ ap (λ x. (pcm ++ more) ++ x) behind in
      λ i.
      record {
        progress = progress_of (l i) (m i);
        decoder = decoder_after p (take n fs) (next_decoder p d f);
        output = out i;
        ending = ending_for p d.finishing (left i);
      }

-- ---- no frame taken
-- the decoder and the output stay as they are
abbrev resting : SbcDecoder → List ℤ → Step → Turns
resting d output x = record { progress = progress_of 0 0; decoder = d; output = output; ending = x }

-- no input is no fault
ending-empty : (p : SbcParameters) (finishing : Bool) → 0 < frame_length p → ending_for p finishing 0 ≡ none_whole
unfolding ending_for
ending-empty p true h = rw (lt-ltb 0 (frame_length p) h)
ending-empty p false h = rw (lt-ltb 0 (frame_length p) h)

module _ (p : SbcParameters) (d : SbcDecoder) (output : List ℤ) where
  played-none : (n : ℕ) (fs : List Fields) (size : ℕ) → n ≡ 0 → played p n fs d size output ≡ resting d output (ending_for p d.finishing size)
  unfolding played decoder_after samples_of
  played-none n fs size e = rw (e, zero-mul (frame_length p), zero-mul (frame_samples p), sub-zero size)

  -- an ending ends the turns
  ending-rests : (go : SbcDecoder → List ℕ → List ℤ → Turns) (input : List ℕ) (finishing : Bool) (left : ℕ)
      → after_step go input d output (ending_for p finishing left) ≡ resting d output (ending_for p finishing left)
  unfolding ending_for after_step
  ending-rests go input finishing left =
      by-test Rests (ltb left (frame_length p)) _ (refused 5)
      (λ _. by-test Rests (finishing && not (eqb left 0)) (refused 1) none_whole (λ _. refl) (λ _. refl))
      (λ _. refl)
    where
      Rests : Step → Type 0
      Rests x = after_step go input d output x ≡ resting d output x

  halt : (k n : ℕ) (fs : List Fields) (input : List ℕ) → n ≡ 0
      → decode_next d input output ≡ unchanged (ending_for p d.finishing (length input)) d output
      → decode_turns (suc k) d input output ≡ played p n fs d (length input) output
  unfolding decode_turns unchanged
  halt k n fs input e t =
      ap (λ x. after_step (decode_turns k) input x.decoder x.output x.step) t
      ∙ ending-rests (decode_turns k) input d.finishing (length input)
      ∙ sym (played-none n fs (length input) e)

  -- input that ends before its frame
  halt-cut : (k n : ℕ) (fs : List Fields) (input : List ℕ) → n ≡ 0 → length input < frame_length p → look input ≡ cut
      → decode_turns (suc k) d input output ≡ played p n fs d (length input) output
  unfolding ending_for next_short turn_by
  halt-cut k n fs input e h c =
      halt k n fs input e
      (turn-cut d input output c ∙ rw (lt-ltb (length input) (frame_length p) h) (short (d.finishing && not (eqb (length input) 0))))
    where
      short : (t : Bool)
          → turn_by (if t then refusal 1 else no_frame) d input output ≡ unchanged (if t then refused 1 else none_whole) d output
      short true = refl
      short false = refl

-- ---- frames until none is whole
module _ (p : SbcParameters) (a : accepted p ≡ true) where
  -- what is to be shown of up to k turns
  abbrev Plays : ℕ → List Fields → Type 0
  Plays k fs =
      (len : ℕ) (d : SbcDecoder) (output : List ℤ) → d.skip ≡ 0 → length (take len (pack_all p fs)) ≤ k
      → decode_turns k d (take len (pack_all p fs)) output
      ≡ played p (whole_frames (length (take len (pack_all p fs))) (frame_length p) (length output) (frame_samples p)) fs d
      (length (take len (pack_all p fs))) output

  plays-step : (k : ℕ) (f : Fields) (fs : List Fields) → WellFormed p f → Plays k fs → Plays (suc k) (f ∷ fs)
  unfolding ending_for
  plays-step k f fs w rec len d output skip fuel = at-tiny (ltb (length input) 3) refl
    where
      input : List ℕ
      input = take len (pack_all p (f ∷ fs))

      n : ℕ
      n = whole_frames (length input) (frame_length p) (length output) (frame_samples p)

      Goal : Type 0
      Goal = decode_turns (suc k) d input output ≡ played p n (f ∷ fs) d (length input) output

      at-whole : frame_length p ≤ length input → (t : Bool) → ltb (length output) (frame_samples p) ≡ t → Goal
      at-whole l true t =
          let h : length output < frame_samples p = ltb-true (length output) (frame_samples p) t in
          let seen = look-whole p a input f (first_frame p f fs len l) l in
          let s : refused 5 ≡ ending_for p d.finishing (length input) = rw (le-ltb (length input) (frame_length p) l) in
          halt p d output k n (f ∷ fs) input (none_out (length input) (frame_length p) (length output) (frame_samples p) h)
          (turn-full d input output p seen h ∙ ap (λ x. unchanged x d output) s)
      at-whole l false t =
          let h : frame_samples p ≤ length output = ltb-false (length output) (frame_samples p) t in
          let first = first_frame p f fs len l in
          let turn = turn-whole d input output p f (look-whole p a input f first l) (fields-whole p a input f first w) h in
          let room : List ℤ = drop (frame_samples p) output in
          let next : SbcDecoder = next_decoder p d f in
          let rest : List ℕ = take (len - frame_length p) (pack_all p fs) in
          let fuel' : length rest ≤ k = omega (arith, rest-length p f fs len, (frame-length-range p a).0) in
          let m : ℕ = whole_frames (length rest) (frame_length p) (length room) (frame_samples p) in
          let en : n ≡ suc m =
          one_in (length input) (frame_length p) (length output) (frame_samples p) (omega (arith, (frame-length-range p a).0))
          (omega (arith, (frame-samples-range p a).0)) l h
          ∙ ap₂ (λ x y. suc (whole_frames x (frame_length p) y (frame_samples p))) (sym (rest-length p f fs len))
          (sym (length-drop (frame_samples p) output)) in
          turns-step p d skip f k input output turn
          ∙ ap (λ i. one_more p (decode_fields p (start_histories p d) f) (decode_turns k next i room)) (piece-rest p f fs len)
          ∙ ap (one_more p (decode_fields p (start_histories p d) f)) (rec (len - frame_length p) next room (still-unskipped p d skip f) fuel')
          ∙ ap (λ s. one_more p (decode_fields p (start_histories p d) f) (played p m fs next s room)) (rest-length p f fs len)
          ∙ played-step p d skip f m fs (length input) output
          ∙ ap (λ x. played p x (f ∷ fs) d (length input) output) (sym en)

      at_cut : 3 ≤ length input → (t : Bool) → ltb (length input) (frame_length p) ≡ t → Goal
      at_cut l true t =
          let h : length input < frame_length p = ltb-true (length input) (frame_length p) t in
          halt-cut p d output k n (f ∷ fs) input (none_in (length input) (frame_length p) (length output) (frame_samples p) h) h
          (look-cut p a input (first_part p f fs len 3 l (omega (arith, (frame-length-range p a).0)) ∙ header-pack p f) h)
      at_cut l false t = at-whole (ltb-false (length input) (frame_length p) t) (ltb (length output) (frame_samples p)) refl

      at-tiny : (t : Bool) → ltb (length input) 3 ≡ t → Goal
      at-tiny true t =
          let h : length input < 3 = ltb-true (length input) 3 t in
          let l : length input < frame_length p = omega (arith, (frame-length-range p a).0) in
          halt-cut p d output k n (f ∷ fs) input (none_in (length input) (frame_length p) (length output) (frame_samples p) l) l (look-short input h)
      at-tiny false t = at_cut (ltb-false (length input) 3 t) (ltb (length input) (frame_length p)) refl

  plays : (k : ℕ) {fs : List Fields} → AllFit p fs → Plays k fs
  unfolding decode_turns
  plays zero {fs} fit len d output skip fuel =
      let input : List ℕ = take len (pack_all p fs) in
      let z : length input ≡ 0 = omega arith in
      let h : length input < frame_length p = omega (arith, (frame-length-range p a).0) in
      let none = none_in (length input) (frame_length p) (length output) (frame_samples p) h in
      ap (resting d output) (sym (ap (ending_for p d.finishing) z ∙ ending-empty p d.finishing (omega (arith, (frame-length-range p a).0))))
      ∙ sym (played-none p d output _ fs (length input) none)
  plays (suc k) none-fit len d output skip fuel =
      let input : List ℕ = take len (pack_all p []) in
      let z : length input ≡ 0 = length-take len (pack_all p []) ∙ omega (arith, length-pack_all p [], zero-mul (frame_length p)) in
      let h : length input < frame_length p = omega (arith, (frame-length-range p a).0) in
      halt-cut p d output k _ [] input (none_in (length input) (frame_length p) (length output) (frame_samples p) h) h (look-short input (omega arith))
  plays (suc k) (one-fits {f} {fs} w rest) len d output skip fuel = plays-step k f fs w (plays k rest) len d output skip fuel

  -- a call on a piece takes as many whole frames as fit into the piece and into the output
  pub decode-played : (fs : List Fields) → AllFit p fs → (len : ℕ) (d : SbcDecoder) (output : List ℤ) → d.skip ≡ 0
      → let input = take len (pack_all p fs) in let n = whole_frames (length input) (frame_length p) (length output) (frame_samples p) in
      decode_all d input output ≡ played p n fs d (length input) output
  unfolding decode_all
  decode-played fs fit len d output skip = plays (length (take len (pack_all p fs))) fit len d output skip (omega arith)

  -- the stream has them
  pub piece-frames : (fs : List Fields) (len room : ℕ)
      → whole_frames (length (take len (pack_all p fs))) (frame_length p) room (frame_samples p) ≤ length fs
  piece-frames fs len room =
      le_of_mul-le-mul_right
      (le_trans (fits_in (length (take len (pack_all p fs))) (frame_length p) room (frame_samples p))
      (omega (arith, length-take len (pack_all p fs), length-pack_all p fs)))
      (omega (arith, (frame-length-range p a).0))

-- ---- lengths
module _ (p : SbcParameters) where
  -- frames give all their samples
  pub length-samples : (fs : List Fields) (d : SbcDecoder) → length (samples_of p fs d) ≡ length fs * frame_samples p
  unfolding samples_of
  length-samples [] d = sym (zero-mul (frame_samples p))
  length-samples (f ∷ fs) d =
      length-append (decode_fields p (start_histories p d) f) (samples_of p fs (next_decoder p d f))
      ∙ omega
      (arith, length-decoded p (start_histories p d) f, length-samples fs (next_decoder p d f), suc-mul (length fs) (frame_samples p))

  -- so do the first n
  pub length-first : (n : ℕ) (fs : List Fields) (d : SbcDecoder) → n ≤ length fs → length (samples_of p (take n fs) d) ≡ n * frame_samples p
  length-first n fs d h = length-samples (take n fs) d ∙ ap (λ k. k * frame_samples p) (length-take-le n fs h)
