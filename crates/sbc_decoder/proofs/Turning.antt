-- The decode loop: its invariant holds at the start and after each frame that is taken, and where a turn takes none it gives the
-- whole call.
-- Assumes nothing.
use Prim.Native.Nat.{ℕ, ◌+◌, ◌-◌, ◌≤◌, ◌<◌}
use mathlib.Core.Path.{◌≡◌, refl, sym, ap, ap₂, subst₂, ◌∙◌}
use mathlib.Core.List.{List, ◌++◌, append_assoc}
use native.Mathlib.Nat.{add-zero, add_assoc, zero-add}
use native.Mathlib.Omega.{arith}
use lib.IntN.{ℤ}
use lib.ListN.{length, take, drop, length-append, length-drop}
use lib.Seq.{length-take-le, take-append-add, drop-drop}
use Rattle.sbc_parameters.specs.Sizes.{frame_length}
use Rattle.sbc_frame.specs.Layout.{unpack}
use borrow.Rule.Slice.PartMut.{put_mid}
use Rattle.std.specs.Prelude.{Option, None, Some, Result, Ok, Err}
use Rattle.laws.specs.Answers.{gives}
use Rattle.laws.proofs.Parts.{tail-part, put-tail}
use Rattle.codec.specs.Errors.{error_number}
use Rattle.codec.specs.Answers.{progress_of, add_progress, refused_after}
use Rattle.codec.specs.declared.Error.{Error}
use Rattle.sbc_decoder.specs.Decode.{Step, none_whole, refused, taken, Turn, play, unchanged, decode_next, Turns, after_step, decode_all}
use Rattle.sbc_decoder.specs.Decode.{answer_of, Decoded, decode}
use Rattle.sbc_decoder.specs.Told.{told_step, told_turn}
use Rattle.codec.specs.declared.Progress.{Progress}
use Rattle.sbc_decoder.specs.declared.SbcDecoder.{SbcDecoder}
use Rattle.sbc_decoder.proofs.Taking.{turn-cases, kept, length-next, more, drop-both, length_some, decode-unrolled}

-- ---- a turn

module _ (d : SbcDecoder) (input : List ℕ) (output : List ℤ) where
  -- a turn keeps the output's length
  pub length-turn : length (decode_next d input output).output ≡ length output
  unfolding unchanged play
  length-turn =
      turn-cases (λ t. length t.output ≡ length output) d input output refl (λ _. refl)
      (λ p a l fits room. length-next p d (unpack p (take (frame_length p) input)) output room)

  -- a frame that is taken has some bytes, and fits both buffers
  pub turn-takes : (progress : Progress) → (decode_next d input output).step ≡ taken progress
      → (0 < progress.consumed) × (progress.consumed ≤ length input) × (progress.produced ≤ length output)
  unfolding unchanged play progress_of
  turn-takes progress =
      turn-cases
      (λ t. t.step ≡ taken progress → (0 < progress.consumed) × (progress.consumed ≤ length input) × (progress.produced ≤ length output))
      d input output
      (λ e. absurd (let z : ◌≡◌ {A = ℕ} 0 1 = cc in omega arith))
      (λ n e. absurd (let z : ◌≡◌ {A = ℕ} 0 1 = cc in omega arith))
      (λ p a l fits room e.
      let same : progress_of (frame_length p) (kept p d) ≡ progress = cc in
      let c : frame_length p ≡ progress.consumed = ap (λ r. r.consumed) same in
      let m : kept p d ≡ progress.produced = ap (λ r. r.produced) same in
      (omega (arith, length_some p), omega arith, omega arith))

-- ---- the loop's invariant: the whole call is the frames taken so far, and then the call from here

pub record Turning (d₀ : SbcDecoder) (input : List ℕ) (output₀ : List ℤ) (d : SbcDecoder) (output : List ℤ)
    (consumed produced : ℕ) : Type 0 where
  pub read : consumed ≤ length input
  pub written : produced ≤ length output
  pub same_length : length output ≡ length output₀
  pub whole-call : decode_all d₀ input output₀
      ≡ more (progress_of consumed produced) output (decode_all d (drop consumed input) (drop produced output))

-- no frame is taken yet
pub start : (d : SbcDecoder) (input : List ℕ) (output : List ℤ) → Turning d input output d output 0 0
unfolding progress_of add_progress
start d input output =
    let r = decode_all d input output in
    let ec = sym (zero-add r.progress.consumed) in
    let ep = sym (zero-add r.progress.produced) in
    record {
      read = omega arith;
      written = omega arith;
      same_length = refl;
      whole-call = λ i. record {
        progress = record { consumed = ec i; produced = ep i };
        decoder = r.decoder;
        output = r.output;
        ending = r.ending;
      };
    }

-- frames, then one, then the rest: the one counts among those before it
more-more : (cs ps : ℕ) (output : List ℤ) (one : Progress) (next : List ℤ) (r : Turns) → ps ≤ length output
    → more (progress_of cs ps) output (more one next r)
    ≡ more (progress_of (cs + one.consumed) (ps + one.produced)) (take ps output ++ next) r
unfolding progress_of add_progress
more-more cs ps output one next r h =
    let ec = sym (add_assoc cs one.consumed r.progress.consumed) in
    let ep = sym (add_assoc ps one.produced r.progress.produced) in
    let front : take (ps + one.produced) (take ps output ++ next) ≡ take ps output ++ take one.produced next =
    ap (λ n. take (n + one.produced) (take ps output ++ next)) (sym (length-take-le ps output h))
    ∙ take-append-add (take ps output) next one.produced in
    let eo : take ps output ++ (take one.produced next ++ r.output) ≡ take (ps + one.produced) (take ps output ++ next) ++ r.output =
    sym (ap (λ l. l ++ r.output) front ∙ append_assoc (take ps output) (take one.produced next) r.output) in
    λ i. record { progress = record { consumed = ec i; produced = ep i }; decoder = r.decoder; output = eo i; ending = r.ending }

module _ {d₀ : SbcDecoder} {input : List ℕ} {output₀ : List ℤ} {d : SbcDecoder} {output : List ℤ} {cs ps : ℕ}
    (t : Turning d₀ input output₀ d output cs ps)
  where
    -- what the turn finds, on what is left of the input and the output
    abbrev pub found : Turn
    found = decode_next d (drop cs input) (drop ps output)

    -- the output once its tail came back
    abbrev pub back : List ℤ
    back = take ps output ++ found.output

    -- it is as long as it was
    pub length_back : length back ≡ length output
    length_back =
        length-append (take ps output) found.output
        ∙ ap₂ ◌+◌ (length-take-le ps output t.written) (length-turn d (drop cs input) (drop ps output) ∙ length-drop ps output)
        ∙ omega (arith, t.written)

    -- the whole call by how this turn went
    from-here : (s : Step) → found.step ≡ s
        → decode_all d₀ input output₀ ≡ more (progress_of cs ps) output (after_step decode_all (drop cs input) found.decoder found.output s)
    from-here s e =
        t.whole-call
        ∙ ap (more (progress_of cs ps) output)
        (decode-unrolled d (drop cs input) (drop ps output) ∙ ap (after_step decode_all (drop cs input) found.decoder found.output) e)

    -- a frame is taken
    pub turn : (one : Progress) → found.step ≡ taken one
        → Turning d₀ input output₀ found.decoder back (cs + one.consumed) (ps + one.produced)
    unfolding after_step
    turn one e =
        let k = turn-takes d (drop cs input) (drop ps output) one e in
        record {
          read = omega (arith, t.read, k.1, length-drop cs input);
          written = omega (arith, t.written, k.2, length-drop ps output, length_back);
          same_length = length_back ∙ t.same_length;
          whole-call =
              from-here (taken one) e
              ∙ more-more cs ps output one found.output _ t.written
              ∙ ap (more (progress_of (cs + one.consumed) (ps + one.produced)) back)
              (ap₂ (decode_all found.decoder) (drop-drop one.consumed cs input)
              (sym (drop-both ps one.produced (take ps output) found.output (length-take-le ps output t.written))));
        }

    -- no frame is taken: the call ends with those before
    stops : (s : Step)
        → decode_all d₀ input output₀
        ≡ more (progress_of cs ps) output
        (record { progress = progress_of 0 0; decoder = found.decoder; output = found.output; ending = s })
        → record { answer = answer_of (progress_of cs ps) s; decoder = found.decoder; output = back } ≡ decode d₀ input output₀
    unfolding progress_of add_progress decode
    stops s e =
        let ec = sym (add-zero cs) in
        let ep = sym (add-zero ps) in
        (λ i. record { answer = answer_of (record { consumed = ec i; produced = ep i }) s; decoder = found.decoder; output = back })
        ∙ ap (λ r. record { answer = answer_of r.progress r.ending; decoder = r.decoder; output = r.output }) (sym e)

    pub stops-none : found.step ≡ none_whole
        → record { answer = answer_of (progress_of cs ps) none_whole; decoder = found.decoder; output = back } ≡ decode d₀ input output₀
    unfolding after_step
    stops-none e = stops none_whole (from-here none_whole e)

    pub stops-refused : (n : ℕ) → found.step ≡ refused n
        → record { answer = answer_of (progress_of cs ps) (refused n); decoder = found.decoder; output = back } ≡ decode d₀ input output₀
    unfolding after_step
    stops-refused n e = stops (refused n) (from-here (refused n) e)

-- ---- what the code of a turn gives back, on the tails of the input and of the output, which then comes back

module _ {d₀ : SbcDecoder} {input : List ℕ} {output₀ : List ℤ} {d : SbcDecoder} {output : List ℤ} {cs ps : ℕ}
    (t : Turning d₀ input output₀ d output cs ps)
    (r : Result (Option Progress) Error) (next : SbcDecoder) (part : List ℤ)
    (h : told_turn r next part ≡ decode_next d (take (length input - cs) (drop cs input)) (take (length output - ps) (drop ps output)))
  where
    -- the output once its tail came back
    abbrev pub returned : List ℤ
    returned = put_mid ps (length output - ps) output part

    finds : told_turn r next part ≡ found t
    finds = h ∙ ap₂ (decode_next d) (tail-part cs input) (tail-part ps output)

    decoder-is : next ≡ (found t).decoder
    decoder-is = ap (λ x. x.decoder) finds

    output-is : returned ≡ back t
    output-is = put-tail ps output part t.written ∙ ap (λ x. take ps output ++ x.output) finds

    step-is : (s : Step) → told_step r ≡ s → (found t).step ≡ s
    step-is s e = sym (ap (λ x. x.step) finds) ∙ e

    -- a frame was taken, of some bytes
    pub takes : (one : Progress) → r ≡ Ok (Some one) → Turning d₀ input output₀ next returned (cs + one.consumed) (ps + one.produced)
    takes one e =
        subst₂ (λ d output. Turning d₀ input output₀ d output (cs + one.consumed) (ps + one.produced)) (sym decoder-is) (sym output-is)
        (turn t one (step-is (taken one) (ap told_step e)))

    pub takes-some : (one : Progress) → r ≡ Ok (Some one) → 0 < one.consumed
    takes-some one e = (turn-takes d (drop cs input) (drop ps output) one (step-is (taken one) (ap told_step e))).0

    -- none is whole
    pub ends : r ≡ Ok None → record { answer = gives (progress_of cs ps); decoder = next; output = returned } ≡ decode d₀ input output₀
    unfolding answer_of
    ends e =
        ap₂ {C = Decoded} (λ d output. record { answer = gives (progress_of cs ps); decoder = d; output = output }) decoder-is output-is
        ∙ stops-none t (step-is none_whole (ap told_step e))

    -- one is refused
    pub fails : (e : Error) → r ≡ Err e
        → record { answer = refused_after (progress_of cs ps) (error_number e); decoder = next; output = returned }
        ≡ decode d₀ input output₀
    unfolding answer_of
    fails e q =
        ap₂ {C = Decoded} (λ d output. record { answer = refused_after (progress_of cs ps) (error_number e); decoder = d; output = output })
        decoder-is output-is
        ∙ stops-refused t (error_number e) (step-is (refused (error_number e)) (ap told_step q))
