-- The theorem on two languages.
-- Assumes nothing.
use Prim.Native.Nat.{ℕ, ◌<◌}
use mathlib.Core.Path.{◌≡◌, refl, sym, ap, ◌∙◌, subst₂}
use mathlib.Core.Bool.{Bool, true, false}
use mathlib.Core.List.{List, [], ◌∷◌}
use Rattle.std.specs.Prelude.{if◌then◌else◌}
use Rattle.laws.specs.Answers.{gives, refuses}
use Rattle.sbc_parameters.specs.declared.SbcParameters.{SbcParameters}
use Rattle.sbc_modes.specs.declared.SbcChannelMode.TheVariants.{DualChannel}
use Rattle.sbc_parameters.specs.Parameters.{accepted}
use Rattle.sbc_encoder.specs.Encode.{encoder_of, new_encoder, pack_all}
use Rattle.sbc_decoder.specs.Decode.{new_decoder}
use Rattle.sbc.specs.TwoLanguages.{Action, State, Result, After, encoded_after, finished_after, decoded_after, after_encode, after_decode, after, run, AllAlike, SameResults, TwoLanguages, Called, encode_called, finish_called, decode_called, CodeRun, CodeTwoLanguages}
use Rattle.sbc_encoder.specs.declared.SbcEncoder.{SbcEncoder}
use Rattle.sbc_decoder.specs.declared.SbcDecoder.{SbcDecoder}
use Rattle.laws.proofs.Answers.{gives-refuses}
use Rattle.sbc.proofs.Streams.{no_frames}
use Rattle.sbc.proofs.Agreement.{Agree, action-keeps}

-- a new encoder is the one of its set
pub new-encoder : (p : SbcParameters) (e : SbcEncoder) → accepted p ≡ true → new_encoder p ≡ gives e → e ≡ encoder_of p
unfolding new_encoder
new-encoder p e a h = let g : gives (encoder_of p) ≡ gives e = rw a at h in let s : encoder_of p ≡ e = cc in sym s

-- a run begins in agreement
starts-agree : (p : SbcParameters) (c : ℕ) (e : SbcEncoder) → e ≡ encoder_of p
    → let start : State = record { encoder = e; decoder = new_decoder; stream = [] } in Agree p c start start
unfolding encoder_of new_decoder pack_all
starts-agree p c e h =
    record {
      encoder = record { parameters₁ = ap (λ x. x.parameters) h; parameters₂ = ap (λ x. x.parameters) h; history = refl };
      decoder = record { parameters = refl; finishing = refl; skip₁ = refl; skip₂ = refl; history = refl };
      frames₁ = [];
      frames₂ = [];
      stream₁ = refl;
      stream₂ = refl;
      same = no_frames;
    }

-- two runs that are alike in channel c, from states that agree in it
pub runs_same : (p : SbcParameters) → accepted p ≡ true → p.channel_mode ≡ DualChannel → (c : ℕ) → c < 2 → {xs ys : List Action}
    → AllAlike c xs ys → (s₁ s₂ : State) → Agree p c s₁ s₂ → SameResults p c (run p s₁ xs) (run p s₂ ys)
unfolding run
runs_same p a dual c hc AllAlike.none s₁ s₂ g = SameResults.none
runs_same p a dual c hc (AllAlike.one {a = x} {b = y} alike rest) s₁ s₂ g =
    let k = action-keeps p a dual c hc alike s₁ s₂ g in
    SameResults.one k.result (runs_same p a dual c hc rest (after p s₁ x).state (after p s₂ y).state k.state)

-- what one channel's listener hears, and every answer, depends on that channel's samples only
pub two-languages : TwoLanguages
two-languages p e a dual new c hc xs ys alike =
    let start : State = record { encoder = e; decoder = new_decoder; stream = [] } in
    runs_same p a dual c hc alike start start (starts-agree p c e (new-encoder p e a new))

-- ---- of the code
module _ (p : SbcParameters) where
  -- what a call of the code gives is what the definition gives
  called_is : {s : State} {a : Action} {x : After} → Called p s a x → after p s a ≡ x
  unfolding after after_encode after_decode
  called_is {s = s} (encode_called {pcm = pcm} {output = output} r next exit e) = ap (encoded_after p s pcm output) (sym e)
  called_is {s = s} (finish_called d e) = ap (finished_after p s) (sym e)
  called_is {s = s} (decode_called {start = start} {size = size} {output = output} r next exit e) = ap (decoded_after p s start size output) (sym e)

  run_is : {s : State} {actions : List Action} {results : List Result} → CodeRun p s actions results → run p s actions ≡ results
  unfolding run
  run_is CodeRun.none = refl
  run_is (CodeRun.one {x = x} {actions = actions} called rest) =
      ap (λ (y : After). y.result ∷ run p y.state actions) (called_is called) ∙ ap (λ (rs : List Result). x.result ∷ rs) (run_is rest)

-- a set whose encoder was given is accepted
created-accepted : (p : SbcParameters) (e : SbcEncoder) → new_encoder p ≡ gives e → accepted p ≡ true
unfolding new_encoder
created-accepted p e = go (accepted p)
  where
    go : (t : Bool) → (if t then gives (encoder_of p) else refuses 3) ≡ gives e → t ≡ true
    go true h = refl
    go false h = absurd (gives-refuses e 3 (sym h))

-- what the code's calls give back, and what one channel's listener hears, depends on that channel's samples only
pub code-two-languages : CodeTwoLanguages
code-two-languages p created e d new given fresh dual c hc xs ys alike results₁ results₂ run₁ run₂ =
    let made : new_encoder p ≡ gives e = sym new ∙ given in
    let from : (SbcDecoder → State) = λ (d : SbcDecoder). record { encoder = e; decoder = d; stream = [] } in
    let same = two-languages p e (created-accepted p e made) dual made c hc xs ys alike in
    subst₂ (λ (rs qs : List Result). SameResults p c rs qs)
    (ap (λ (d : SbcDecoder). run p (from d) xs) (sym fresh) ∙ run_is p run₁)
    (ap (λ (d : SbcDecoder). run p (from d) ys) (sym fresh) ∙ run_is p run₂)
    same
