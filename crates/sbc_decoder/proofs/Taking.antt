-- Frames taken one after the other: the cases of a turn, what a played frame leaves, and the decode loop's own equation.
-- Assumes nothing.
use Prim.Native.Nat.{ℕ, zero, suc, ◌+◌, ◌-◌, ◌*◌, ◌≤◌, ◌<◌}
use mathlib.Core.Path.{◌≡◌, refl, sym, ap, ◌∙◌}
use mathlib.Core.Bool.{Bool, true, false, ◌&&◌}
use mathlib.Core.List.{List, [], ◌++◌}
use native.Mathlib.Nat.{add-zero, add-suc, mul-le-mul_right}
use native.Mathlib.Omega.{arith}
use lib.IntN.{ℤ}
use lib.ListN.{length, take, drop, length-append, length-take, length-drop}
use lib.Seq.{length-take-le, take_at, drop_at, drop-drop, drop-append-add}
use Rattle.std.specs.Prelude.{if◌then◌else◌}
use Rattle.sbc_parameters.specs.Parameters.{channels, accepted}
use Rattle.sbc_parameters.specs.Sizes.{frame_length, frame_samples}
use Rattle.sbc_parameters.specs.Header.{parse}
use Rattle.sbc_parameters.specs.declared.SbcParameters.{SbcParameters}
use Rattle.sbc_frame.specs.Fields.{Fields}
use Rattle.sbc_frame.specs.Layout.{unpack}
use Rattle.sbc_frame.specs.Decoding.{decode_fields}
use Rattle.sbc_frame.proofs.Coding.{length-decoded}
use Rattle.codec.specs.Answers.{progress_of, add_progress}
use Rattle.sbc_look.specs.Look.{whole, look_parsed, look}
use Rattle.sbc_look.specs.Next.{Decision, no_frame, refusal, plays, next_short, next_at, next}
use Rattle.sbc_look.proofs.Deciding.{next-cases, plays-fits}
use Rattle.sbc_decoder.specs.Decode.{start_histories, dropped, next_output, Step, none_whole, refused, Turn, play, unchanged, turn_by}
use Rattle.sbc_decoder.specs.Decode.{decode_next, Turns, after_step, decode_turns, decode_all, decode}
use Rattle.codec.specs.declared.Progress.{Progress}
use Rattle.sbc_decoder.specs.declared.SbcDecoder.{SbcDecoder}
use Rattle.laws.proofs.Lists.{nil-of-length}

-- ---- the cases of a turn

-- two turns that differ in their output's contents only go alike
pub turn-pairs : (P : Turn → Turn → Type 0) (d : SbcDecoder) (input : List ℕ) (o₁ o₂ : List ℤ) → length o₁ ≡ length o₂
    → P (unchanged none_whole d o₁) (unchanged none_whole d o₂)
    → ((n : ℕ) → P (unchanged (refused n) d o₁) (unchanged (refused n) d o₂))
    → ((p : SbcParameters) → accepted p ≡ true → look input ≡ whole p true → frame_length p ≤ length input → frame_samples p ≤ length o₁
    → let f = unpack p (take (frame_length p) input) in P (play p d f o₁) (play p d f o₂))
    → P (decode_next d input o₁) (decode_next d input o₂)
unfolding decode_next turn_by
turn-pairs P d input o₁ o₂ same none refuse play₂ =
    rw (← same) (next-cases (λ x. P (turn_by x d input o₁) (turn_by x d input o₂)) d.finishing input (length o₁) none refuse play₂)

-- a turn finds no whole frame or refuses, and changes nothing; or it plays a frame
pub turn-cases : (P : Turn → Type 0) (d : SbcDecoder) (input : List ℕ) (output : List ℤ) → P (unchanged none_whole d output)
    → ((n : ℕ) → P (unchanged (refused n) d output))
    → ((p : SbcParameters) → accepted p ≡ true → look input ≡ whole p true → frame_length p ≤ length input → frame_samples p ≤ length output
    → P (play p d (unpack p (take (frame_length p) input)) output))
    → P (decode_next d input output)
turn-cases P d input output none refuse played = turn-pairs (λ t _. P t) d input output output refl none refuse played

-- a turn does what is to be done
pub turn-does : (d : SbcDecoder) (input : List ℕ) (output : List ℤ) (x : Decision) → next d.finishing input (length output) ≡ x
    → decode_next d input output ≡ turn_by x d input output
unfolding decode_next
turn-does d input output x e = ap (λ y. turn_by y d input output) e

module _ (d : SbcDecoder) (input : List ℕ) (output : List ℤ) where
  pub turn-none : next d.finishing input (length output) ≡ no_frame
      → decode_next d input output ≡ record { step = none_whole; decoder = d; output = output }
  unfolding turn_by unchanged
  turn-none e = turn-does d input output no_frame e

  pub turn-refused : (n : ℕ) → next d.finishing input (length output) ≡ refusal n
      → decode_next d input output ≡ record { step = refused n; decoder = d; output = output }
  unfolding turn_by unchanged
  turn-refused n e = turn-does d input output (refusal n) e

  pub turn-plays : (p : SbcParameters) → next d.finishing input (length output) ≡ plays p
      → decode_next d input output ≡ play p d (unpack p (take (frame_length p) input)) output
  unfolding turn_by
  turn-plays p e = turn-does d input output (plays p) e

  -- so the frame is in the input, and its samples fit the output
  pub frame-inside : (p : SbcParameters) → next d.finishing input (length output) ≡ plays p → frame_length p ≤ length input
  frame-inside p e = (plays-fits d.finishing input (length output) p e).1

  pub samples-inside : (p : SbcParameters) → next d.finishing input (length output) ≡ plays p → frame_samples p ≤ length output
  samples-inside p e = (plays-fits d.finishing input (length output) p e).2

pub ruleset deciding = (turn-none, turn-refused, turn-plays, frame-inside, samples-inside, length-take-le)

-- ---- what a played frame leaves

module _ (p : SbcParameters) (d : SbcDecoder) where
  -- the samples of all channels that a pending skip drops
  abbrev pub gone : ℕ
  gone = dropped p d * channels p

  -- and those that are kept
  abbrev pub kept : ℕ
  kept = frame_samples p - gone

  -- no more is dropped than the frame has
  pub gone-fits : gone ≤ frame_samples p
  unfolding dropped frame_samples
  gone-fits = mul-le-mul_right (channels p) (omega arith)

  module _ (f : Fields) (output : List ℤ) where
    -- the frame's samples
    abbrev pub samples : List ℤ
    samples = decode_fields p (start_histories p d) f

    -- what stands behind the kept ones
    abbrev behind : List ℤ
    behind = drop kept samples ++ drop (frame_samples p) output

    -- as many are kept as are not dropped
    pub length-kept : length (drop gone samples) ≡ kept
    length-kept = length-drop gone samples ∙ ap (λ k. k - gone) (length-decoded p (start_histories p d) f)

    -- the kept samples stand in front
    pub take_next : take kept (next_output p d f output) ≡ drop gone samples
    unfolding next_output
    take_next = take_at (drop gone samples) behind kept length-kept

    -- behind them what was written there, and the output behind the frame
    pub drop-next : drop kept (next_output p d f output) ≡ drop kept samples ++ drop (frame_samples p) output
    unfolding next_output
    drop-next = drop_at (drop gone samples) behind kept length-kept

    length-behind : frame_samples p ≤ length output → length behind ≡ length output - kept
    length-behind h =
        length-append (drop kept samples) (drop (frame_samples p) output)
        ∙ omega (arith, gone-fits, length-drop kept samples, length-decoded p (start_histories p d) f, length-drop (frame_samples p) output)

    -- the output keeps its length
    pub length-next : frame_samples p ≤ length output → length (next_output p d f output) ≡ length output
    unfolding next_output
    length-next h = length-append (drop gone samples) behind ∙ omega (arith, length-kept, length-behind h, gone-fits)

    -- and nothing is written behind the frame's samples
    pub beyond-next : drop (frame_samples p) (next_output p d f output) ≡ drop (frame_samples p) output
    beyond-next =
        let e : frame_samples p ≡ kept + gone = omega (arith, gone-fits) in
        let l : length (drop kept samples) ≡ gone =
        length-drop kept samples ∙ omega (arith, gone-fits, length-decoded p (start_histories p d) f) in
        ap (λ k. drop k (next_output p d f output)) e ∙ sym (drop-drop gone kept (next_output p d f output))
        ∙ ap (drop gone) drop-next ∙ drop_at (drop kept samples) (drop (frame_samples p) output) gone l

-- ---- the loop

-- a frame's progress and output, and then the rest
abbrev pub more : Progress → List ℤ → Turns → Turns
more progress output rest =
    record {
      progress = add_progress progress rest.progress;
      decoder = rest.decoder;
      output = take progress.produced output ++ rest.output;
      ending = rest.ending;
    }

-- what is left behind a first part of m and k more
pub drop-both : {A : Type 0} (m k : ℕ) (xs ys : List A) → length xs ≡ m → drop (m + k) (xs ++ ys) ≡ drop k ys
drop-both m k xs ys e = ap (λ n. drop (n + k) (xs ++ ys)) (sym e) ∙ drop-append-add xs ys k

-- no bytes, no frame
pub turn-empty : (d : SbcDecoder) (output : List ℤ) → decode_next d [] output ≡ unchanged none_whole d output
unfolding decode_next look look_parsed parse next next_at next_short turn_by
turn-empty d output = go d.finishing
  where
    go : (t : Bool) → turn_by (if t && false then refusal 1 else no_frame) d [] output ≡ unchanged none_whole d output
    go true = refl
    go false = refl

-- each frame has some bytes
pub length_some : (p : SbcParameters) → 0 < frame_length p
unfolding frame_length
length_some p = omega arith

-- one more turn allowed changes nothing where there is one for each byte
fuel-step : (k : ℕ) (d : SbcDecoder) (input : List ℕ) (output : List ℤ) → length input ≤ k
    → decode_turns (suc k) d input output ≡ decode_turns k d input output
unfolding decode_turns after_step unchanged play progress_of
fuel-step zero d input output h =
    let e : input ≡ [] = nil-of-length input (omega arith) in
    rw (e, turn-empty d output)
fuel-step (suc k) d input output h =
    turn-cases
    (λ t. after_step (decode_turns (suc k)) input t.decoder t.output t.step
    ≡ after_step (decode_turns k) input t.decoder t.output t.step)
    d input output refl (λ n. refl)
    (λ p a l fits room.
    let t = play p d (unpack p (take (frame_length p) input)) output in
    let c = progress_of (frame_length p) (kept p d) in
    ap (more c t.output)
    (fuel-step k t.decoder (drop (frame_length p) input) (drop (kept p d) t.output)
    (omega (arith, length-drop (frame_length p) input, length_some p))))

fuel-more : (j : ℕ) (d : SbcDecoder) (input : List ℕ) (output : List ℤ)
    → decode_turns (length input + j) d input output ≡ decode_all d input output
unfolding decode_all
fuel-more zero d input output = ap (λ k. decode_turns k d input output) (add-zero (length input))
fuel-more (suc j) d input output =
    ap (λ k. decode_turns k d input output) (add-suc (length input) j)
    ∙ fuel-step (length input + j) d input output (omega arith)
    ∙ fuel-more j d input output

-- any number of turns from the number of bytes on is enough
pub fuel-enough : (k : ℕ) (d : SbcDecoder) (input : List ℕ) (output : List ℤ) → length input ≤ k
    → decode_turns k d input output ≡ decode_all d input output
fuel-enough k d input output h =
    let e : k ≡ length input + (k - length input) = omega arith in
    ap (λ n. decode_turns n d input output) e ∙ fuel-more (k - length input) d input output

-- the loop's own equation, with no bound: a turn, and then the rest
pub decode-unrolled : (d : SbcDecoder) (input : List ℕ) (output : List ℤ)
    → decode_all d input output ≡ (let t = decode_next d input output in after_step decode_all input t.decoder t.output t.step)
unfolding decode_turns after_step unchanged play progress_of
decode-unrolled d input output =
    sym (fuel-enough (suc (length input)) d input output (omega arith))
    ∙ turn-cases
    (λ t. after_step (decode_turns (length input)) input t.decoder t.output t.step
    ≡ after_step decode_all input t.decoder t.output t.step)
    d input output refl (λ n. refl)
    (λ p a l fits room.
    let t = play p d (unpack p (take (frame_length p) input)) output in
    let c = progress_of (frame_length p) (kept p d) in
    ap (more c t.output)
    (fuel-enough (length input) t.decoder (drop (frame_length p) input) (drop (kept p d) t.output)
    (omega (arith, length-drop (frame_length p) input))))

-- a call that takes no frame, and what stopped it
abbrev pub stopped : Step → SbcDecoder → List ℤ → Turns
stopped s d output = record { progress = progress_of 0 0; decoder = d; output = output; ending = s }

-- what holds where a call stops, and of a frame and the rest where it holds of the rest, holds of every call
pub decode-induction : (P : SbcDecoder → List ℕ → List ℤ → Turns → Type 0)
    → ((d : SbcDecoder) (input : List ℕ) (output : List ℤ) (s : Step) → decode_all d input output ≡ stopped s d output
    → P d input output (stopped s d output))
    → ((d : SbcDecoder) (input : List ℕ) (output : List ℤ) (p : SbcParameters) → accepted p ≡ true → frame_length p ≤ length input
    → frame_samples p ≤ length output
    → let t = play p d (unpack p (take (frame_length p) input)) output in
    let rest = decode_all t.decoder (drop (frame_length p) input) (drop (kept p d) t.output) in
    P t.decoder (drop (frame_length p) input) (drop (kept p d) t.output) rest
    → P d input output (more (progress_of (frame_length p) (kept p d)) t.output rest))
    → (d : SbcDecoder) (input : List ℕ) (output : List ℤ) → P d input output (decode_all d input output)
unfolding after_step unchanged play progress_of
decode-induction P stop step d input output = go (length input) d input output (omega arith)
  where
    -- of a turn
    Holds : SbcDecoder → List ℕ → List ℤ → Turn → Type 0
    Holds d input output t =
        decode_all d input output ≡ after_step decode_all input t.decoder t.output t.step
        → P d input output (after_step decode_all input t.decoder t.output t.step)

    go : (k : ℕ) (d : SbcDecoder) (input : List ℕ) (output : List ℤ) → length input ≤ k → P d input output (decode_all d input output)
    go zero d input output h =
        rw decode-unrolled
        (turn-cases (Holds d input output) d input output (stop d input output none_whole) (λ n. stop d input output (refused n))
        (λ p a l fits room. absurd (omega (arith, length_some p)))
        (decode-unrolled d input output))
    go (suc k) d input output h =
        rw decode-unrolled
        (turn-cases (Holds d input output) d input output (stop d input output none_whole) (λ n. stop d input output (refused n))
        (λ p a l fits room _.
        let t = play p d (unpack p (take (frame_length p) input)) output in
        step d input output p a fits room
        (go k t.decoder (drop (frame_length p) input) (drop (kept p d) t.output)
        (omega (arith, length-drop (frame_length p) input, length_some p))))
        (decode-unrolled d input output))

-- ---- a call's output keeps its length, and its progress fits both buffers

-- of a call's buffers and its frames
pub record Fits (input : List ℕ) (output : List ℤ) (r : Turns) : Type 0 where
  pub same_length : length r.output ≡ length output
  pub all_read : r.progress.consumed ≤ length input
  pub all-written : r.progress.produced ≤ length output

-- of every call
pub decode-fits : (d : SbcDecoder) (input : List ℕ) (output : List ℤ) → Fits input output (decode_all d input output)
unfolding progress_of add_progress play
decode-fits =
    decode-induction (λ d input output r. Fits input output r)
    (λ d input output s e. record { same_length = refl; all_read = omega arith; all-written = omega arith })
    (λ d input output p a fits room rest.
    let f = unpack p (take (frame_length p) input) in
    let o = next_output p d f output in
    let l : length o ≡ length output = length-next p d f output room in
    let m : length (drop (kept p d) o) ≡ length o - kept p d = length-drop (kept p d) o in
    let i : length (drop (frame_length p) input) ≡ length input - frame_length p = length-drop (frame_length p) input in
    let r = decode_all (play p d f output).decoder (drop (frame_length p) input) (drop (kept p d) o) in
    record {
      same_length =
          length-append (take (kept p d) o) r.output
          ∙ omega (arith, length-take (kept p d) o, rest.same_length, m, l, room);
      all_read = omega (arith, rest.all_read, i, fits);
      all-written = omega (arith, rest.all-written, m, l, room);
    })

-- the output of decode keeps its length
pub length-decode : (d : SbcDecoder) (input : List ℕ) (output : List ℤ) → length (decode d input output).output ≡ length output
unfolding decode
length-decode d input output = (decode-fits d input output).same_length
