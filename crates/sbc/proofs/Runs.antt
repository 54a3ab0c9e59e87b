-- A run by itself, in any mode: every call takes its n frames, in each encode call and in each decode call, and every decode output keeps its
-- length.
-- Assumes nothing.
use Prim.Native.Nat.{ℕ, zero, suc, ◌-◌, ◌*◌, ◌≤◌, ◌<◌}
use mathlib.Core.Path.{◌≡◌, refl, sym, ap, ◌∙◌, subst}
use mathlib.Core.Bool.{true}
use mathlib.Core.List.{List, [], ◌∷◌, ◌++◌}
use native.Mathlib.Omega.{arith}
use native.Mathlib.Nat.{mul-le-mul_left}
use lib.Dec.{eqb, ltb}
use lib.IntN.{ℤ}
use lib.ListN.{length, take, drop}
use borrow.Author.Tests.{eqb-true, ltb-true}
use Rattle.laws.specs.Answers.{Told, gives, refuses}
use Rattle.laws.proofs.Cases.{by-test}
use Rattle.sbc_parameters.specs.declared.SbcParameters.{SbcParameters}
use Rattle.sbc_parameters.specs.Parameters.{accepted}
use Rattle.sbc_parameters.specs.Sizes.{frame_length, frame_samples}
use Rattle.sbc_parameters.proofs.Accepted.{frame-length-range}
use Rattle.sbc_frame.specs.Fields.{Fields}
use Rattle.sbc_frame.proofs.Coding.{encode-fits}
use Rattle.codec.specs.Answers.{progress_of, refused_after, whole_frames}
use Rattle.sbc_encoder.specs.Encode.{histories, with_histories, encoder_of, new_encoder, next_encoder, encoded_frames, pack_all, encode}
use Rattle.sbc_decoder.specs.Decode.{new_decoder, finish, with_finishing, next_decoder, Step, none_whole, refused, taken, decode_all, answer_of, decode}
use Rattle.sbc.specs.TwoLanguages.{Action, encodes, finishes, decodes, State, Result, After, after_encode, after_decode, after, run}
use Rattle.codec.specs.declared.Progress.{Progress}
use Rattle.sbc_encoder.specs.declared.SbcEncoder.{SbcEncoder}
use Rattle.sbc_decoder.specs.declared.SbcDecoder.{SbcDecoder}
use Rattle.codec.proofs.Fitting.{none_out}
use Rattle.sbc_encoder.proofs.Writing.{parameters-after}
use Rattle.sbc.proofs.Streams.{longer, piece-from, AllFit, none-fit, one-fits, fit_append, fit-drop}
use Rattle.sbc.proofs.Encoded.{answer_for, Call, encode-call}
use Rattle.sbc.proofs.Played.{decoder_after, ending_for, played, still-unskipped, decode-played}
use Rattle.sbc_decoder.proofs.Taking.{length-decode}
use Rattle.sbc.proofs.TwoLanguages.{new-encoder}

-- ---- what a run's calls give
-- n frames taken, each of so many values in and out, or a refusal where n is 0
pub data Answered (n frame-in frame-out : ℕ) : Told Progress → Type 0 where
  all-taken : Answered n frame-in frame-out (gives (progress_of (n * frame-in) (n * frame-out)))
  none-taken : (m : ℕ) → n ≡ 0 → Answered n frame-in frame-out (refuses m)

pub data Took (p : SbcParameters) : Action → Result → Type 0 where
  encoding : {pcm : List ℤ} {output : List ℕ} {r : Result} → r.n ≡ whole_frames (length pcm) (frame_samples p) (length output) (frame_length p)
      → Answered r.n (frame_samples p) (frame_length p) r.answer → Took p (encodes pcm output) r
  finishing : {r : Result} → r.answer ≡ gives (progress_of 0 0) → Took p finishes r
  decoding : {start size : ℕ} {output : List ℤ} {r : Result} → Answered r.n (frame_length p) (frame_samples p) r.answer
      → length r.output ≡ length output → Took p (decodes start size output) r

pub data AllTook (p : SbcParameters) : List Action → List Result → Type 0 where
  none : AllTook p [] []
  one : {x : Action} {r : Result} {xs : List Action} {rs : List Result} → Took p x r → AllTook p xs rs → AllTook p (x ∷ xs) (r ∷ rs)

-- ---- what a run's states keep: the set, nothing to skip, and a stream of written frames
pub record Ready (p : SbcParameters) (s : State) : Type 0 where
  pub parameters : s.encoder.parameters ≡ p
  pub skip : s.decoder.skip ≡ 0
  pub frames : List Fields
  pub stream : s.stream ≡ pack_all p frames
  pub fit : AllFit p frames

-- ---- encode
-- what is encoded fits frames
pub frames-fit : (n : ℕ) (e : SbcEncoder) (pcm : List ℤ) → AllFit e.parameters (encoded_frames n e pcm)
unfolding encoded_frames next_encoder with_histories
frames-fit zero e pcm = none-fit
frames-fit (suc n) e pcm =
    one-fits (encode-fits e.parameters (histories e) pcm) (frames-fit n (next_encoder e pcm) (drop (frame_samples e.parameters) pcm))

encode-answered : (p : SbcParameters) (input output : ℕ)
    → Answered (whole_frames input (frame_samples p) output (frame_length p)) (frame_samples p) (frame_length p) (answer_for p input output)
unfolding answer_for
encode-answered p input output =
    by-test (Answered (whole_frames input (frame_samples p) output (frame_length p)) (frame_samples p) (frame_length p)) (ltb output (frame_length p)) _ _
    (λ h. none-taken 5 (none_out input (frame_samples p) output (frame_length p) (ltb-true _ _ h)))
    (λ _. all-taken)

-- ---- decode
unskipped-after : (p : SbcParameters) (fs : List Fields) (d : SbcDecoder) → d.skip ≡ 0 → (decoder_after p fs d).skip ≡ 0
unfolding decoder_after
unskipped-after p [] d h = h
unskipped-after p (f ∷ fs) d h = unskipped-after p fs (next_decoder p d f) (still-unskipped p d h f)

decode-answered : (n frame-in frame-out : ℕ) → 0 < frame-in → (x : Step)
    → Answered n frame-in frame-out (answer_of (progress_of (n * frame-in) (n * frame-out)) x)
unfolding answer_of refused_after progress_of
decode-answered n i o h none_whole = all-taken
decode-answered n i o h (taken more) = all-taken
decode-answered n i o h (refused m) =
    by-test (Answered n i o) (eqb (n * i) 0) (refuses m) _ (λ e. none-taken m (no_frames (eqb-true _ 0 e))) (λ _. all-taken)
  where
    no_frames : n * i ≡ 0 → n ≡ 0
    no_frames e = let k : n * 1 ≤ n * i = mul-le-mul_left n h in omega arith

-- ---- any action
module _ (p : SbcParameters) (a : accepted p ≡ true) where
  -- what an action gives, and the state behind it
  pub record Goes (x : Action) (r : After) : Type 0 where
    pub took : Took p x r.result
    pub ready : Ready p r.state

  encodes-goes : (s : State) → Ready p s → (pcm : List ℤ) (output : List ℕ) → Goes (encodes pcm output) (after_encode p s pcm output)
  unfolding after_encode
  encodes-goes s g pcm output =
      let e : SbcEncoder = s.encoder in
      let n : ℕ = whole_frames (length pcm) (frame_samples p) (length output) (frame_length p) in
      let call : Call p e pcm output n (encode e pcm output) = encode-call p a e g.parameters pcm output in
      record {
        took = encoding refl (subst (Answered n (frame_samples p) (frame_length p)) (sym call.answer) (encode-answered p (length pcm) (length output)));
        ready =
            record {
              parameters = ap (λ x. x.parameters) call.encoder ∙ parameters-after n e pcm ∙ g.parameters;
              skip = g.skip;
              frames = g.frames ++ encoded_frames n e pcm;
              stream = longer p s.stream _ g.frames (encoded_frames n e pcm) g.stream call.written;
              fit = fit_append p g.fit (subst (λ q. AllFit q (encoded_frames n e pcm)) g.parameters (frames-fit n e pcm));
            };
      }

  decodes-goes : (s : State) → Ready p s → (start size : ℕ) (output : List ℤ) → Goes (decodes start size output) (after_decode p s start size output)
  unfolding after_decode decode played
  decodes-goes s g start size output =
      let d : SbcDecoder = s.decoder in
      let piece : List ℕ = take size (drop (start * frame_length p) s.stream) in
      let fs : List Fields = drop start g.frames in
      let n : ℕ = whole_frames (length piece) (frame_length p) (length output) (frame_samples p) in
      let e : piece ≡ take size (pack_all p fs) = piece-from p start size s.stream g.frames g.stream in
      let turns : decode_all d piece output ≡ played p n fs d (length piece) output =
      subst (λ i. decode_all d i output ≡ played p (whole_frames (length i) (frame_length p) (length output) (frame_samples p)) fs d (length i) output) (sym e)
      (decode-played p a fs (fit-drop p start g.fit) size d output g.skip) in
      let answer : (decode d piece output).answer
      ≡ answer_of (progress_of (n * frame_length p) (n * frame_samples p)) (ending_for p d.finishing (length piece - n * frame_length p)) =
      ap (λ r. answer_of r.progress r.ending) turns in
      record {
        took =
            decoding
            (subst (Answered n (frame_length p) (frame_samples p)) (sym answer)
            (decode-answered n (frame_length p) (frame_samples p) (omega (arith, (frame-length-range p a).0)) _))
            (length-decode d piece output);
        ready =
            record {
              parameters = g.parameters;
              skip = ap (λ r. r.decoder.skip) turns ∙ unskipped-after p (take n fs) d g.skip;
              frames = g.frames;
              stream = g.stream;
              fit = g.fit;
            };
      }

  pub action-goes : (x : Action) (s : State) → Ready p s → Goes x (after p s x)
  unfolding after finish with_finishing
  action-goes (encodes pcm output) s g = encodes-goes s g pcm output
  action-goes finishes s g =
      record {
        took = finishing refl;
        ready = record { parameters = g.parameters; skip = g.skip; frames = g.frames; stream = g.stream; fit = g.fit };
      }
  action-goes (decodes start size output) s g = decodes-goes s g start size output

  -- ---- a run
  runs-took : (xs : List Action) (s : State) → Ready p s → AllTook p xs (run p s xs)
  unfolding run
  runs-took [] s g = none
  runs-took (x ∷ xs) s g = let k = action-goes x s g in one k.took (runs-took xs (after p s x).state k.ready)

  -- every call of a run takes its n frames
  pub run-took : (e : SbcEncoder) → new_encoder p ≡ gives e → (xs : List Action)
      → AllTook p xs (run p (record { encoder = e; decoder = new_decoder; stream = [] }) xs)
  unfolding encoder_of new_decoder pack_all
  run-took e new xs =
      runs-took xs (record { encoder = e; decoder = new_decoder; stream = [] })
      (record { parameters = ap (λ x. x.parameters) (new-encoder p e a new); skip = refl; frames = []; stream = refl; fit = none-fit })
