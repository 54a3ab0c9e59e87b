-- Two languages: in dual channel, what decode writes of one channel, and every answer, depends on that channel's samples only.
-- From document 01, "The words of demand 3".
use Rattle.std.specs.Prelude.{ℕ, ◌*◌, ◌%◌, ◌<◌, ◌≡◌, true, List, [], ◌∷◌, ◌++◌, ℤ, pos, length, get_or, take, drop, Result as Answer}
use Rattle.laws.specs.Answers.{Told, gives}
use Rattle.sbc_parameters.specs.Parameters.{accepted}
use Rattle.sbc_parameters.specs.Sizes.{frame_length, frame_samples}
use Rattle.sbc_parameters.specs.declared.SbcParameters.{SbcParameters}
use Rattle.sbc_modes.specs.declared.SbcChannelMode.TheVariants.{DualChannel}
use Rattle.codec.specs.Answers.{told, progress_of, whole_frames}
use Rattle.codec.specs.declared.Error.{Error}
use Rattle.sbc_encoder.specs.Encode.{new_encoder, Encoded, encode}
use Rattle.sbc_decoder.specs.Decode.{new_decoder, finish, Decoded, decode}
use Rattle.sbc_encoder.specs.Told.{told_encoded}
use Rattle.sbc_decoder.specs.Told.{told_decoded}
use Rattle.codec.specs.declared.Progress.{Progress}
use Rattle.sbc_encoder.specs.declared.SbcEncoder.{SbcEncoder}
use Rattle.sbc_decoder.specs.declared.SbcDecoder.{SbcDecoder}

-- ---- a run: a list of actions, in any order

pub data Action : Type 0 where
  -- an encode call: its PCM, and its output before the call
  encodes : List ℤ → List ℕ → Action
  -- finishing is set
  finishes : Action
  -- a decode call: the frame of the stream that its piece begins at, the length of the piece, and its output before the call. 01 lets a
  -- piece begin behind all frames that earlier decode calls took; here it may begin at any frame. It is cut where the stream ends.
  -- An n depends on lengths only, so 01's starts, earlier n added up, are alike in both runs
  decodes : ℕ → ℕ → List ℤ → Action

-- what a call is given: the encoder or decoder as the last one left it, and the stream
pub record State : Type 0 where
  pub encoder : SbcEncoder
  pub decoder : SbcDecoder
  -- the first n frame lengths of each encode output, end to end in call order
  pub stream : List ℕ

-- what a call gives: its answer, its n, and its output after the call (samples of a decode call; none of the others)
pub record Result : Type 0 where
  pub answer : Told Progress
  pub n : ℕ
  pub output : List ℤ

-- what an action leaves, and what it gives
pub record After : Type 0 where
  pub state : State
  pub result : Result

module _ (p : SbcParameters) where
  -- after an encode call that gave r
  abbrev pub encoded_after : State → List ℤ → List ℕ → Encoded → After
  encoded_after s pcm output r =
      let n = whole_frames (length pcm) (frame_samples p) (length output) (frame_length p) in
      record {
        state = record { encoder = r.encoder; decoder = s.decoder; stream = s.stream ++ take (n * frame_length p) r.output };
        result = record { answer = r.answer; n = n; output = [] };
      }

  -- where it gives what `encode` says
  unfoldable pub after_encode : State → List ℤ → List ℕ → After
  after_encode s pcm output = encoded_after s pcm output (encode s.encoder pcm output)

  -- after `finish`
  abbrev pub finished_after : State → SbcDecoder → After
  finished_after s d =
      record {
        state = record { encoder = s.encoder; decoder = d; stream = s.stream };
        result = record { answer = gives (progress_of 0 0); n = 0; output = [] };
      }

  -- the piece of a decode call
  abbrev pub piece_of : State → ℕ → ℕ → List ℕ
  piece_of s start size = take size (drop (start * frame_length p) s.stream)

  -- after a decode call that gave r
  abbrev pub decoded_after : State → ℕ → ℕ → List ℤ → Decoded → After
  decoded_after s start size output r =
      record {
        state = record { encoder = s.encoder; decoder = r.decoder; stream = s.stream };
        result =
            record {
              answer = r.answer;
              n = whole_frames (length (piece_of s start size)) (frame_length p) (length output) (frame_samples p);
              output = r.output;
            };
      }

  -- where it gives what `decode` says
  unfoldable pub after_decode : State → ℕ → ℕ → List ℤ → After
  after_decode s start size output = decoded_after s start size output (decode s.decoder (piece_of s start size) output)

  -- after any action
  unfoldable pub after : State → Action → After
  after s (encodes pcm output) = after_encode s pcm output
  after s finishes = finished_after s (finish s.decoder)
  after s (decodes start size output) = after_decode s start size output

  -- each call gets the encoder or decoder as the last one left it, unchanged after a refusal
  unfoldable pub run : State → List Action → List Result
  run s [] = []
  run s (a ∷ actions) = let r = after s a in r.result ∷ run r.state actions

-- ---- runs that are alike in channel c: left is 0, right is 1

-- two lists hold the same at the places of channel c below a limit (left 0, 2, 4 and on; right 1, 3, 5 and on)
abbrev pub SamePlaces : ℕ → ℕ → List ℤ → List ℤ → Type 0
SamePlaces c limit xs ys = (i : ℕ) → i < limit → i % 2 ≡ c → get_or xs i (pos 0) ≡ get_or ys i (pos 0)

-- the same kind of action, all lengths and starts alike, and in an encode call's PCM the places of channel c; its other places, and every
-- output before its call, hold anything
pub data Alike (c : ℕ) : Action → Action → Type 0 where
  both_encode : {xs ys : List ℤ} {out₁ out₂ : List ℕ} → length xs ≡ length ys → SamePlaces c (length xs) xs ys → length out₁ ≡ length out₂
      → Alike c (encodes xs out₁) (encodes ys out₂)
  both_finish : Alike c finishes finishes
  both_decode : {start size : ℕ} {out₁ out₂ : List ℤ} → length out₁ ≡ length out₂ → Alike c (decodes start size out₁) (decodes start size out₂)

-- alike too is the number of actions
pub data AllAlike (c : ℕ) : List Action → List Action → Type 0 where
  none : AllAlike c [] []
  one : {a b : Action} {xs ys : List Action} → Alike c a b → AllAlike c xs ys → AllAlike c (a ∷ xs) (b ∷ ys)

-- ---- what follows: each call returns the same, and in the first n * frame_samples places of each decode output those of the channel are equal

-- what is the same in the two results of a call
pub record SameResult (p : SbcParameters) (c : ℕ) (x y : Result) : Type 0 where
  pub answer : x.answer ≡ y.answer
  pub n : x.n ≡ y.n
  pub output : SamePlaces c (x.n * frame_samples p) x.output y.output

-- of each call, in call order
pub data SameResults (p : SbcParameters) (c : ℕ) : List Result → List Result → Type 0 where
  none : SameResults p c [] []
  one : {x y : Result} {xs ys : List Result} → SameResult p c x y → SameResults p c xs ys → SameResults p c (x ∷ xs) (y ∷ ys)

-- The claim: one accepted dual-channel set, an encoder created from it and a decoder as created; one channel; two runs alike in it.
abbrev pub TwoLanguages : Type 0
TwoLanguages =
    (p : SbcParameters) (e : SbcEncoder) → accepted p ≡ true → p.channel_mode ≡ DualChannel → new_encoder p ≡ gives e →
    (c : ℕ) → c < 2 → (xs ys : List Action) → AllAlike c xs ys →
    let start : State = record { encoder = e; decoder = new_decoder; stream = [] } in
    SameResults p c (run p start xs) (run p start ys)

-- ---- the same of the code: whatever its calls give and leave, as far as the contracts of `SbcEncoder::new`, `SbcEncoder::encode`,
-- `SbcDecoder::new`, `SbcDecoder::finish` and `SbcDecoder::decode` tell, which are the equations below

module _ (p : SbcParameters) where
  -- a call of the code: what it gave back, and the encoder or decoder and its output after the call
  pub data Called (s : State) : Action → After → Type 0 where
    encode_called : {pcm : List ℤ} {output : List ℕ} (r : Answer Progress Error) (e : SbcEncoder) (exit : List ℕ)
        → told_encoded r e exit ≡ encode s.encoder pcm output
        → Called s (encodes pcm output) (encoded_after p s pcm output (told_encoded r e exit))
    finish_called : (d : SbcDecoder) → d ≡ finish s.decoder → Called s finishes (finished_after p s d)
    decode_called : {start size : ℕ} {output : List ℤ} (r : Answer Progress Error) (d : SbcDecoder) (exit : List ℤ)
        → told_decoded r d exit ≡ decode s.decoder (piece_of p s start size) output
        → Called s (decodes start size output) (decoded_after p s start size output (told_decoded r d exit))

  -- a run of the code: each call gets the encoder or decoder that the last one left
  pub data CodeRun : State → List Action → List Result → Type 0 where
    none : {s : State} → CodeRun s [] []
    one : {s : State} {a : Action} {x : After} {actions : List Action} {results : List Result} → Called s a x
        → CodeRun x.state actions results → CodeRun s (a ∷ actions) (x.result ∷ results)

-- The claim of the code: an encoder that `SbcEncoder::new` accepted, a decoder that `SbcDecoder::new` gave.
abbrev pub CodeTwoLanguages : Type 0
CodeTwoLanguages =
    (p : SbcParameters) (created : Answer SbcEncoder Error) (e : SbcEncoder) (d : SbcDecoder) → told created ≡ new_encoder p
    → told created ≡ gives e → d ≡ new_decoder → p.channel_mode ≡ DualChannel → (c : ℕ) → c < 2 → (xs ys : List Action) → AllAlike c xs ys →
    let start : State = record { encoder = e; decoder = d; stream = [] } in
    (results₁ results₂ : List Result) → CodeRun p start xs results₁ → CodeRun p start ys results₂ → SameResults p c results₁ results₂
