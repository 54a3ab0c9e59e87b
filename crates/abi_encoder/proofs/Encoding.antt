-- An encoder as numbers and back, the calls on an encoder's state, and that a refused call leaves the state and the output.
-- Assumes nothing.
use Prim.Native.Nat.{ℕ, suc}
use mathlib.Core.Path.{◌≡◌, refl, sym, ap, ◌∙◌}
use mathlib.Core.Bool.{true}
use mathlib.Core.List.{List, []}
use native.Mathlib.Omega.{arith}
use lib.IntN.{ℤ}
use lib.ListN.{length, get_or}
use Rattle.laws.specs.Answers.{Told, gives, refuses}
use Rattle.laws.specs.Lists.{collect, build}
use Rattle.laws.proofs.Cases.{by-test}
use Rattle.laws.proofs.Lists.{build-is}
use Rattle.codec.specs.declared.Progress.{Progress}
use Rattle.sbc_encoder.specs.Encode.{encode}
use Rattle.sbc_encoder.specs.declared.SbcEncoder.{SbcEncoder}
use Rattle.sbc_encoder.proofs.Refusals.{encode-refused}
use Rattle.abi_numbers.specs.Numbers.{is_set, coded_numbers}
use Rattle.abi_encoder.specs.Encoder.{encoder_in, state_of, EncodeAfter, after_encode, encode_state}
use Rattle.abi_encoder.specs.declared.EncoderState.{EncoderState}
use Rattle.abi_numbers.proofs.Numbers.{parameters-back, numbers-back, numbers-set}

-- a state, its encoder, and the state again
pub state-back : (s : EncoderState) → is_set s.parameters ≡ true → state_of (encoder_in s) ≡ s
unfolding encoder_in state_of
state-back s is = ap (λ n. record { left = s.left; right = s.right; parameters = n }) (numbers-back s.parameters is)

-- an encoder, its state, and the encoder again
pub encoder-back : (e : SbcEncoder) → length e.analysis ≡ 2 → encoder_in (state_of e) ≡ e
unfolding collect build encoder_in state_of
encoder-back e two =
    let parameters = parameters-back e.parameters in
    let entry = λ (i : ℕ). get_or e.analysis i (record { history = [] }) in
    let histories = build-is 2 entry e.analysis (record { history = [] }) two (λ i h. refl) in
    λ i. record { parameters = parameters i; analysis = histories i }

pub state-stands : (e : SbcEncoder) → is_set (state_of e).parameters ≡ true
unfolding state_of
state-stands e = numbers-set e.parameters

-- a call on an encoder's state is that on the encoder
pub encode-of : (e : SbcEncoder) (pcm : List ℤ) (output : List ℕ) → length e.analysis ≡ 2
    → encode_state (state_of e) pcm output ≡ after_encode (encode e pcm output)
unfolding encode_state
encode-of e pcm output two = rw (state-stands e) (ap (λ x. after_encode (encode x pcm output)) (encoder-back e two))

-- a refusal leaves the state and the output
abbrev Kept : EncoderState → List ℕ → EncodeAfter → Type 0
Kept s output r = (r.state ≡ s) × (r.output ≡ output)

pub encode-stays : (s : EncoderState) (pcm : List ℤ) (output : List ℕ) (n : ℕ) → (encode_state s pcm output).answer.refusal ≡ suc n
    → Kept s output (encode_state s pcm output)
unfolding coded_numbers after_encode encode_state
encode-stays s pcm output n =
    by-test (λ (r : EncodeAfter). r.answer.refusal ≡ suc n → Kept s output r) (is_set s.parameters)
    (after_encode (encode (encoder_in s) pcm output))
    (record { answer = coded_numbers (refuses 3); state = s; output = output })
    (λ is. go is (encode (encoder_in s) pcm output).answer refl)
    (λ _ _. (refl, refl))
  where
    go : is_set s.parameters ≡ true → (a : Told Progress) → (encode (encoder_in s) pcm output).answer ≡ a
        → (coded_numbers (encode (encoder_in s) pcm output).answer).refusal ≡ suc n
        → Kept s output (after_encode (encode (encoder_in s) pcm output))
    go is (gives progress) e h = absurd (omega (arith, sym (ap (λ x. (coded_numbers x).refusal) e) ∙ h))
    go is (refuses m) e h =
        let kept = encode-refused (encoder_in s) pcm output m e in
        (ap state_of kept.0 ∙ state-back s is, kept.1)
