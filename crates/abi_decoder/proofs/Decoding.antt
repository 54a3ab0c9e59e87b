-- A decoder as numbers and back, the calls on a decoder's state, and that a refused call leaves the state and the output.
-- Assumes nothing.
use Prim.Native.Nat.{ℕ, zero, suc, ◌+◌, ◌<◌}
use mathlib.Core.Path.{◌≡◌, refl, sym, ap, ◌∙◌}
use mathlib.Core.Bool.{Bool, true, false, ◌&&◌, true≢false}
use mathlib.Core.List.{List}
use native.Mathlib.Nat.{zero-add}
use native.Mathlib.Omega.{arith}
use lib.Dec.{eqb, ltb}
use lib.IntN.{ℤ, pos}
use lib.ListN.{length, get_or, replicate}
use borrow.Author.Tests.{ne_eqb, eqb-true, ltb-true}
use Rattle.std.specs.Prelude.{if◌then◌else◌}
use Rattle.laws.specs.Answers.{Told, gives, refuses}
use Rattle.laws.specs.Lists.{collect, build}
use Rattle.laws.proofs.Cases.{by-test}
use Rattle.laws.proofs.Lists.{length-build, build-is}
use Rattle.laws.proofs.Tests.{and_left, and_right}
use Rattle.sbc_frame.specs.Channels.{no_synthesis}
use Rattle.codec.specs.declared.Progress.{Progress}
use Rattle.sbc_decoder.specs.Decode.{cleared, new_decoder, with_parameters, with_synthesis, next_decoder, play, decode_all, decode}
use Rattle.sbc_decoder.specs.Seek.{seek}
use Rattle.std.specs.Prelude.{Option, None, Some}
use Rattle.sbc_parameters.specs.declared.SbcParameters.{SbcParameters}
use Rattle.sbc_decoder.specs.declared.SbcDecoder.{SbcDecoder}
use Rattle.sbc_frame.specs.Decoding.{synthesis_histories}
use Rattle.sbc_decoder.proofs.Taking.{decode-induction}
use Rattle.sbc_decoder.proofs.Refusals.{decode-refused}
use Rattle.abi_numbers.specs.Numbers.{no_numbers, coded_numbers}
use Rattle.abi_decoder.specs.Decoder.{is_blank, is_held, is_decoder, last_in, decoder_in, held_number, held_numbers, absent, state_of}
use Rattle.abi_decoder.specs.Decoder.{DecodeAfter, after_decode, decode_state, after_seek, seek_state}
use Rattle.abi_numbers.specs.declared.ParameterNumbers.{ParameterNumbers}
use Rattle.abi_decoder.specs.declared.DecoderState.{DecoderState}
use Rattle.abi_numbers.proofs.Numbers.{parameters-back, numbers-back, numbers-set}

-- ---- a state, its decoder, and the state again

blank_none : (n : ParameterNumbers) → is_blank n ≡ true → no_numbers ≡ n
unfolding is_blank no_numbers
blank_none n blank =
    let e = eqb-true (n.sample_rate + (n.channel_mode + n.allocation + n.blocks + n.subbands) + n.bitpool) 0 blank in
    let rate : 0 ≡ n.sample_rate = omega (arith, e) in
    let mode : 0 ≡ n.channel_mode = omega (arith, e) in
    let allocation : 0 ≡ n.allocation = omega (arith, e) in
    let blocks : 0 ≡ n.blocks = omega (arith, e) in
    let subbands : 0 ≡ n.subbands = omega (arith, e) in
    let bitpool : 0 ≡ n.bitpool = omega (arith, e) in
    λ i. record {
      sample_rate = rate i;
      channel_mode = mode i;
      allocation = allocation i;
      blocks = blocks i;
      subbands = subbands i;
      bitpool = bitpool i;
    }

held_back : (has : ℕ) (n : ParameterNumbers) → is_held has n ≡ true
    → (held_number (last_in has n) ≡ has) × (held_numbers (last_in has n) ≡ n)
held_back zero n h = (refl, blank_none n h)
held_back (suc zero) n h = (refl, numbers-back n h)
held_back (suc (suc k)) n h =
    let none = ne_eqb (suc (suc k)) 0 (λ e. omega (arith, e)) in
    let one = ne_eqb (suc (suc k)) 1 (λ e. omega (arith, e)) in
    let no : is_held (suc (suc k)) n ≡ false = rw (none, one) refl in
    absurd (true≢false (sym h ∙ no))

bit-back : (n : ℕ) → n < 2 → (if eqb n 1 then 1 else 0) ≡ n
bit-back zero lt = refl
bit-back (suc zero) lt = refl
bit-back (suc (suc n)) lt = absurd (omega arith)

pub state-back : (s : DecoderState) → is_decoder s ≡ true → state_of (decoder_in s) ≡ s
unfolding is_decoder decoder_in state_of
state-back s is =
    let f = ltb s.finishing 2 in
    let h = is_held s.has_parameters s.parameters in
    let held = held_back s.has_parameters s.parameters (and_right f h is) in
    let has = held.0 in
    let numbers = held.1 in
    let finishing = bit-back s.finishing (ltb-true s.finishing 2 (and_left f h is)) in
    λ i. record {
      left = s.left;
      right = s.right;
      left_newest = s.left_newest;
      right_newest = s.right_newest;
      skip = s.skip;
      parameters = numbers i;
      has_parameters = has i;
      finishing = finishing i;
    }

-- ---- a decoder, its state, and the decoder again

last-back : (l : Option SbcParameters) → last_in (held_number l) (held_numbers l) ≡ l
last-back None = refl
last-back (Some p) = ap Some (parameters-back p)

test_back : (b : Bool) → eqb (if b then 1 else 0) 1 ≡ b
test_back true = refl
test_back false = refl

pub decoder-back : (d : SbcDecoder) → length d.synthesis ≡ 2 → decoder_in (state_of d) ≡ d
unfolding collect build decoder_in state_of
decoder-back d two =
    let last = last-back d.parameters in
    let histories = build-is 2 (λ i. get_or d.synthesis i absent) d.synthesis absent two (λ i h. refl) in
    let finishing = test_back d.finishing in
    λ i. record { parameters = last i; synthesis = histories i; finishing = finishing i; skip = d.skip }

last-held : (l : Option SbcParameters) → is_held (held_number l) (held_numbers l) ≡ true
unfolding no_numbers is_blank
last-held None = refl
last-held (Some p) = numbers-set p

test_bit : (b : Bool) → ltb (if b then 1 else 0) 2 ≡ true
test_bit true = refl
test_bit false = refl

pub state-stands : (d : SbcDecoder) → is_decoder (state_of d) ≡ true
unfolding is_decoder state_of
state-stands d = rw (test_bit d.finishing, last-held d.parameters) refl

-- a new decoder is all zeros
pub new-zeros : state_of new_decoder
    ≡ record {
      left = replicate 160 (pos 0);
      right = replicate 160 (pos 0);
      left_newest = 0;
      right_newest = 0;
      skip = 0;
      parameters = no_numbers;
      has_parameters = 0;
      finishing = 0;
    }
unfolding no_synthesis cleared new_decoder state_of
new-zeros = refl

-- ---- the calls on a decoder's state are those on the decoder

pub decode-of : (d : SbcDecoder) (input : List ℕ) (output : List ℤ) → length d.synthesis ≡ 2
    → decode_state (state_of d) input output ≡ after_decode (decode d input output)
unfolding decode_state
decode-of d input output two = rw (state-stands d) (ap (λ x. after_decode (decode x input output)) (decoder-back d two))

pub seek-of : (d : SbcDecoder) (position : ℕ) → length d.synthesis ≡ 2 → seek_state (state_of d) position ≡ after_seek (seek d position)
unfolding seek_state
seek-of d position two = rw (state-stands d) (ap (λ x. after_seek (seek x position)) (decoder-back d two))

-- a decode call leaves two histories
two-after : (d : SbcDecoder) (input : List ℕ) (output : List ℤ) → length d.synthesis ≡ 2
    → length (decode_all d input output).decoder.synthesis ≡ 2
unfolding with_parameters with_synthesis next_decoder play synthesis_histories
two-after =
    decode-induction (λ d input output r. length d.synthesis ≡ 2 → length r.decoder.synthesis ≡ 2) (λ d input output s e two. two)
    (λ d input output p a fits room rest two. rest (length-build 2 _))

-- the next call on the state that a call left is the next call on the decoder that it left
pub decode-again : (s : DecoderState) (input next : List ℕ) (output room : List ℤ) → is_decoder s ≡ true
    → decode_state (decode_state s input output).state next room
    ≡ after_decode (decode (decode (decoder_in s) input output).decoder next room)
unfolding decoder_in decode after_decode decode_state
decode-again s input next output room is =
    rw is (decode-of (decode (decoder_in s) input output).decoder next room (two-after (decoder_in s) input output refl))

-- ---- a refusal leaves the state and the output

abbrev Kept : DecoderState → List ℤ → DecodeAfter → Type 0
Kept s output r = (r.state ≡ s) × (r.output ≡ output)

pub decode-stays : (s : DecoderState) (input : List ℕ) (output : List ℤ) (n : ℕ) → (decode_state s input output).answer.refusal ≡ suc n
    → Kept s output (decode_state s input output)
unfolding coded_numbers after_decode decode_state
decode-stays s input output n =
    by-test (λ (r : DecodeAfter). r.answer.refusal ≡ suc n → Kept s output r) (is_decoder s)
    (after_decode (decode (decoder_in s) input output))
    (record { answer = coded_numbers (refuses 3); state = s; output = output })
    (λ is. go is (decode (decoder_in s) input output).answer refl)
    (λ _ _. (refl, refl))
  where
    go : is_decoder s ≡ true → (a : Told Progress) → (decode (decoder_in s) input output).answer ≡ a
        → (coded_numbers (decode (decoder_in s) input output).answer).refusal ≡ suc n
        → Kept s output (after_decode (decode (decoder_in s) input output))
    go is (gives progress) e h = absurd (omega (arith, sym (ap (λ x. (coded_numbers x).refusal) e) ∙ h))
    go is (refuses m) e h =
        let kept = decode-refused (decoder_in s) input output m e in
        (ap state_of kept.0 ∙ state-back s is, kept.1)

-- ---- for the code

zero-sum : (a b : ℕ) → eqb (a + b) 0 ≡ (eqb a 0 && eqb b 0)
zero-sum zero b = ap (λ n. eqb n 0) (zero-add b)
zero-sum (suc a) b =
    ne_eqb (suc a + b) 0 (λ e. omega (arith, e)) ∙ sym (ap (λ t. t && eqb b 0) (ne_eqb (suc a) 0 (λ e. omega (arith, e))))

-- numbers that equal zeros one by one
pub blank-is : (n : ParameterNumbers) → is_blank n
    ≡ (eqb n.sample_rate 0 && (eqb n.channel_mode 0 && (eqb n.allocation 0 && (eqb n.blocks 0 && (eqb n.subbands 0 && eqb n.bitpool 0)))))
unfolding is_blank
blank-is n =
    let e : n.sample_rate + (n.channel_mode + n.allocation + n.blocks + n.subbands) + n.bitpool
    ≡ n.sample_rate + (n.channel_mode + (n.allocation + (n.blocks + (n.subbands + n.bitpool)))) = omega arith in
    ap (λ k. eqb k 0) e ∙ simp zero-sum

pub ruleset blanks = (blank-is)
