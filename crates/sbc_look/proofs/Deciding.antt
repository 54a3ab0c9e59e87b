-- The cases of a look, and of what a decode call does next.
-- Assumes nothing.
use Prim.Native.Nat.{ℕ, ◌≤◌}
use mathlib.Core.Path.{◌≡◌, refl, subst}
use mathlib.Core.Bool.{Bool, true, false, ◌&&◌, not}
use mathlib.Core.List.{List}
use lib.Dec.{eqb, ltb}
use lib.ListN.{length, get_or, take}
use borrow.Author.Tests.{ltb-false}
use Rattle.std.specs.Prelude.{if◌then◌else◌}
use Rattle.laws.specs.Answers.{Told, gives, refuses}
use Rattle.laws.proofs.Cases.{by-test}
use Rattle.crc8.specs.Checksum.{checksum}
use Rattle.sbc_parameters.specs.Parameters.{accepted}
use Rattle.sbc_parameters.specs.Sizes.{side_bits, frame_length, frame_samples}
use Rattle.sbc_parameters.specs.Header.{parse}
use Rattle.sbc_parameters.specs.declared.SbcParameters.{SbcParameters}
use Rattle.sbc_parameters.proofs.Accepted.{frame-length-range}
use Rattle.sbc_parameters.proofs.Parsing.{parsed-accepted}
use Rattle.sbc_look.proofs.Answering.{none-plays, refusal-plays, plays-same}
use Rattle.sbc_look.specs.Look.{Look, cut, bad, whole, look_parsed, look}
use Rattle.sbc_look.specs.Next.{Decision, no_frame, refusal, plays, next_short, next_whole, next_at, next}

-- a whole frame has accepted parameters and all its bytes
pub look-cases : (P : Look → Type 0) (input : List ℕ) → P cut → ((n : ℕ) → P (bad n))
    → ((p : SbcParameters) (good : Bool) → accepted p ≡ true → frame_length p ≤ length input → P (whole p good)) → P (look input)
unfolding look look_parsed
look-cases P input none b w = go (parse input) refl
  where
    go : (t : Told SbcParameters) → parse input ≡ t → P (look_parsed input t)
    go (refuses n) e = by-test P (eqb n 1) cut (bad n) (λ _. none) (λ _. b n)
    go (gives p) e =
        let good : Bool = eqb (checksum (take (frame_length p) input) (side_bits p)) (get_or input 3 0) in
        by-test P (ltb (length input) (frame_length p)) cut (whole p good) (λ _. none)
        (λ l. w p good (parsed-accepted input p e) (ltb-false (length input) (frame_length p) l))

-- a frame that is played is whole and good, and there is room for its samples
pub next-cases : (P : Decision → Type 0) (finishing : Bool) (input : List ℕ) (room : ℕ) → P no_frame → ((n : ℕ) → P (refusal n))
    → ((p : SbcParameters) → accepted p ≡ true → look input ≡ whole p true → frame_length p ≤ length input → frame_samples p ≤ room → P (plays p))
    → P (next finishing input room)
unfolding next next_at next_short next_whole
next-cases P finishing input room none refuse play =
    look-cases (λ x. look input ≡ x → P (next_at x finishing (length input) room)) input
    (λ _. by-test P (finishing && not (eqb (length input) 0)) (refusal 1) no_frame (λ _. refuse 1) (λ _. none))
    (λ n _. refuse n)
    (λ p good a l e. go p good a l e (ltb room (frame_samples p)) refl)
    refl
  where
    go : (p : SbcParameters) (good : Bool) → accepted p ≡ true → frame_length p ≤ length input → look input ≡ whole p good → (t : Bool)
        → ltb room (frame_samples p) ≡ t → P (if t then refusal 5 else if good then plays p else refusal 4)
    go p good a l e true t = refuse 5
    go p true a l e false t = play p a e l (ltb-false room (frame_samples p) t)
    go p false a l e false t = refuse 4

-- so what is to be played fits
pub plays-fits : (finishing : Bool) (input : List ℕ) (room : ℕ) (p : SbcParameters) → next finishing input room ≡ plays p
    → (accepted p ≡ true) × (frame_length p ≤ length input) × (frame_samples p ≤ room)
plays-fits finishing input room p =
    next-cases (λ x. x ≡ plays p → (accepted p ≡ true) × (frame_length p ≤ length input) × (frame_samples p ≤ room)) finishing input room
    (λ h. absurd (none-plays p h))
    (λ n h. absurd (refusal-plays n p h))
    (λ q a e l r h.
    subst (λ (s : SbcParameters). (accepted s ≡ true) × (frame_length s ≤ length input) × (frame_samples s ≤ room)) (plays-same q p h) (a, l, r))

-- ---- for the code

pub ruleset parsing = (parsed-accepted)

-- a frame of accepted parameters has a byte 3
pub some-bytes : (p : SbcParameters) → accepted p ≡ true → 7 ≤ frame_length p
some-bytes p a = (frame-length-range p a).0

pub ruleset framing = (some-bytes)
