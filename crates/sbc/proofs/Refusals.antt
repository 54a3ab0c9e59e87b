-- Demand 1 of the calls.
-- Assumes nothing.
use Prim.Native.Nat.{ℕ, ◌^◌, ◌≤◌, ◌<◌}
use mathlib.Core.Logic.{◌↔◌}
use mathlib.Core.Path.{◌≡◌, refl, sym, ap, ◌∙◌}
use mathlib.Core.Bool.{Bool, true, false, ◌&&◌, false≢true}
use native.Mathlib.Omega.{arith}
use lib.Dec.{eqb, ltb}
use borrow.Author.Tests.{eqb-false, ne_eqb, ltb-false, le-ltb}
use Rattle.std.specs.Prelude.{if◌then◌else◌, None, Some}
use Rattle.laws.specs.Answers.{gives, refuses}
use Rattle.laws.proofs.Answers.{gives-refuses, refuses-same}
use Rattle.sbc_parameters.specs.Parameters.{accepted, validate}
use Rattle.sbc_parameters.specs.declared.SbcParameters.{SbcParameters}
use Rattle.sbc_seek.specs.Seek.{seek_offset, seek_skip, request_of, request_in, first_request, seek_request}
use Rattle.sbc_encoder.specs.Encode.{encoder_of, new_encoder}
use Rattle.sbc_decoder.specs.Seek.{seek}
use Rattle.sbc_decoder.specs.declared.SbcDecoder.{SbcDecoder}
use Rattle.sbc_decoder.proofs.Taking.{length-decode}
use Rattle.sbc_decoder.proofs.Refusals.{decode-refused, seek-refused}
use Rattle.sbc_encoder.proofs.Writing.{length-encode, encode-untouched}
use Rattle.sbc_encoder.proofs.Refusals.{encode-refused}
use Rattle.sbc.specs.Refusals.{FirstFault, RefusedUnchanged, NextCallMeetsFault, WritesOnly, Demand1}
use Rattle.sbc.proofs.NextCall.{next-encode}
use Rattle.sbc.proofs.Untouched.{decode-untouched, reach-produced}
use Rattle.sbc.proofs.Faults.{decode-faults, seek-answers, encode-no-set, encode-faults}
use Rattle.sbc.proofs.Following.{next-decode-meets}
use Rattle.sbc.proofs.Reaching.{reach-within}

-- ---- the refusal that is named

-- what is given where a test passes is refused where it fails, with its number and no other
refused-if : {A : Type 0} (t : Bool) (a : A) (m n : ℕ) → ((if t then gives a else refuses m) ≡ refuses n) ↔ ((n ≡ m) × (t ≡ false))
refused-if true a m n = (λ q. absurd (gives-refuses a n q), λ q. absurd (false≢true (sym q.1)))
refused-if false a m n = (λ q. (sym (refuses-same m n q), refl), λ q. ap refuses (sym q.0))

new-faults : (p : SbcParameters) (n : ℕ) → (new_encoder p ≡ refuses n) ↔ ((n ≡ 3) × (accepted p ≡ false))
unfolding new_encoder
new-faults p n = refused-if (accepted p) (encoder_of p) 3 n

validate-faults : (p : SbcParameters) (n : ℕ) → (validate p ≡ refuses n) ↔ ((n ≡ 3) × (accepted p ≡ false))
unfolding validate
validate-faults p n = refused-if (accepted p) tt 3 n

first-seek-faults : (d : SbcDecoder) (position n : ℕ) → d.parameters ≡ None
    → ((seek d position).answer ≡ refuses n) ↔ ((n ≡ 1) × (0 < position))
unfolding seek_request first_request
first-seek-faults d position n h =
    let is : (seek d position).answer ≡ first_request position = seek-answers d position ∙ ap (λ last. seek_request last position) h in
    let test = refused-if (eqb position 0) (request_of 0 0) 1 n in (
      λ q. let r = test.0 (sym is ∙ q) in let other = eqb-false position 0 r.1 in (r.0, omega (arith, other)),
      λ q. is ∙ test.1 (q.0, ne_eqb position 0 (λ e. omega (arith, e, q.1))),
    )

seek-faults : (d : SbcDecoder) (p : SbcParameters) (position n : ℕ) → d.parameters ≡ Some p → accepted p ≡ true
    → ((seek d position).answer ≡ refuses n) ↔ ((n ≡ 3) × (2 ^ 64 ≤ seek_offset p position))
unfolding seek_request request_in
seek-faults d p position n h a =
    let offset = seek_offset p position in
    let request = request_of offset (seek_skip p position) in
    let is : (seek d position).answer ≡ (if ltb offset (2 ^ 64) then gives request else refuses 3) =
    seek-answers d position ∙ ap (λ last. seek_request last position) h
    ∙ ap (λ (t : Bool). if t && ltb offset (2 ^ 64) then gives request else refuses 3) a in
    let test = refused-if (ltb offset (2 ^ 64)) request 3 n in (
      λ q. let r = test.0 (sym is ∙ q) in (r.0, ltb-false offset (2 ^ 64) r.1),
      λ q. is ∙ test.1 (q.0, le-ltb offset (2 ^ 64) q.1),
    )

refused-seek : (d : SbcDecoder) (p : SbcParameters) (position : ℕ) → d.parameters ≡ Some p → accepted p ≡ false
    → (seek d position).answer ≡ refuses 3
unfolding seek_request request_in
refused-seek d p position h a =
    let offset = seek_offset p position in
    let request = request_of offset (seek_skip p position) in
    seek-answers d position ∙ ap (λ last. seek_request last position) h
    ∙ ap (λ (t : Bool). if t && ltb offset (2 ^ 64) then gives request else refuses 3) a

pub first-fault : FirstFault
first-fault =
    record {
      of_decode = decode-faults;
      of_first_seek = first-seek-faults;
      of_seek = seek-faults;
      of_encode = encode-faults;
      of_new = new-faults;
      of_validate = validate-faults;
      of_refused_set = λ e pcm output a. ap (λ r. r.answer) (encode-no-set e pcm output a);
      of_refused_seek = refused-seek;
    }

pub refused-unchanged : RefusedUnchanged
refused-unchanged = record { of_decode = decode-refused; of_seek = seek-refused; of_encode = encode-refused }

pub next-call-meets-fault : NextCallMeetsFault
next-call-meets-fault = record { of_decode = next-decode-meets; of_encode = next-encode }

pub writes-only : WritesOnly
writes-only =
    record {
      of_decode = λ d input output. (length-decode d input output, decode-untouched d input output);
      unskipped = reach-produced;
      skipped = reach-within;
      of_encode = λ e pcm output progress given. (length-encode e pcm output, encode-untouched e pcm output progress given);
    }

pub demand-1 : Demand1
demand-1 = record { first = first-fault; refused = refused-unchanged; following = next-call-meets-fault; written = writes-only }
