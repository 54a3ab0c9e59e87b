-- What is told of a look and of a decision determines it: a contract on what is told fixes what is returned.
-- Assumes nothing.
use Prim.Native.Nat.{ℕ}
use mathlib.Core.Path.{◌≡◌, refl, sym, ap, ◌∙◌}
use mathlib.Core.Bool.{Bool}
use native.Mathlib.Omega.{arith}
use Rattle.std.specs.Prelude.{Option, None, Some, Result, Ok, Err}
use Rattle.codec.specs.Errors.{error_number}
use Rattle.codec.specs.declared.Error.{Error}
use Rattle.codec.specs.declared.Error.TheVariants.{Incomplete, InvalidHeader, InvalidParameter, InvalidData, BufferTooSmall}
use Rattle.codec.proofs.Answering.{error-determined}
use Rattle.sbc_parameters.specs.declared.SbcParameters.{SbcParameters}
use Rattle.sbc_parameters.specs.declared.accepted_set.AcceptedSet.{AcceptedSet}
use Rattle.sbc_parameters.proofs.Accepted.{set-determines}
use Rattle.sbc_look.specs.Look.{Look, cut, bad, whole, told_look}
use Rattle.sbc_look.specs.Next.{no_frame, refusal, plays, told_next}
use Rattle.sbc_look.specs.declared.WholeFrame.{WholeFrame}

-- ---- the look

-- the number of the refusal that is told; 0 of a whole frame
look_number : Look → ℕ
look_number cut = 1
look_number (bad n) = n
look_number (whole p good) = 0

look_refused : (e : Error) → look_number (told_look (Err e)) ≡ error_number e
unfolding look_number
look_refused Incomplete = refl
look_refused InvalidHeader = refl
look_refused InvalidParameter = refl
look_refused InvalidData = refl
look_refused BufferTooSmall = refl

no_zero : (e : Error) → error_number e ≡ 0 → ⊥
no_zero Incomplete h = omega arith
no_zero InvalidHeader h = omega arith
no_zero InvalidParameter h = omega arith
no_zero InvalidData h = omega arith
no_zero BufferTooSmall h = omega arith

whole_same : (p q : SbcParameters) (good well : Bool) → whole p good ≡ whole q well → (p ≡ q) × (good ≡ well)
whole_same p q good well h = (cc, cc)

pub front-determined : (a b : Result WholeFrame Error) → told_look a ≡ told_look b → a ≡ b
unfolding look_number
front-determined (Ok x) (Ok y) h =
    let same = whole_same x.accepted.set y.accepted.set x.good y.good h in
    let accepted = set-determines x.accepted y.accepted same.0 in
    ap Ok (λ i. record { accepted = accepted i; good = same.1 i })
front-determined (Ok x) (Err f) h = absurd (no_zero f (sym (ap look_number h ∙ look_refused f)))
front-determined (Err e) (Ok y) h = absurd (no_zero e (sym (look_refused e) ∙ ap look_number h))
front-determined (Err e) (Err f) h = ap Err (error-determined e f (sym (look_refused e) ∙ (ap look_number h ∙ look_refused f)))

-- ---- the decision

none-refusal : (n : ℕ) → no_frame ≡ refusal n → ⊥
none-refusal n h = let z : ◌≡◌ {A = ℕ} 0 1 = cc in omega arith

pub none-plays : (p : SbcParameters) → no_frame ≡ plays p → ⊥
none-plays p h = let z : ◌≡◌ {A = ℕ} 0 1 = cc in omega arith

pub refusal-plays : (n : ℕ) (p : SbcParameters) → refusal n ≡ plays p → ⊥
refusal-plays n p h = let z : ◌≡◌ {A = ℕ} 0 1 = cc in omega arith

refusal-same : (m n : ℕ) → refusal m ≡ refusal n → m ≡ n
refusal-same m n h = cc

pub plays-same : (p q : SbcParameters) → plays p ≡ plays q → p ≡ q
plays-same p q h = cc

pub next-determined : (a b : Result (Option AcceptedSet) Error) → told_next a ≡ told_next b → a ≡ b
next-determined (Ok None) (Ok None) h = refl
next-determined (Ok None) (Ok (Some y)) h = absurd (none-plays y.set h)
next-determined (Ok None) (Err f) h = absurd (none-refusal (error_number f) h)
next-determined (Ok (Some x)) (Ok None) h = absurd (none-plays x.set (sym h))
next-determined (Ok (Some x)) (Ok (Some y)) h = ap (λ a. Ok (Some a)) (set-determines x y (plays-same x.set y.set h))
next-determined (Ok (Some x)) (Err f) h = absurd (refusal-plays (error_number f) x.set (sym h))
next-determined (Err e) (Ok None) h = absurd (none-refusal (error_number e) (sym h))
next-determined (Err e) (Ok (Some y)) h = absurd (refusal-plays (error_number e) y.set h)
next-determined (Err e) (Err f) h = ap Err (error-determined e f (refusal-same (error_number e) (error_number f) h))
