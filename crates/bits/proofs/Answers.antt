-- What is told of an answer determines the answer: a contract on what is told fixes what is returned.
-- Assumes nothing.
use Prim.Native.Nat.{ℕ}
use mathlib.Core.Path.{◌≡◌, ap}
use mathlib.Core.List.{List}
use Rattle.std.specs.Prelude.{Result, Ok, Err}
use Rattle.codec.specs.Errors.{error_number}
use Rattle.codec.proofs.Answering.{error-determined}
use Rattle.codec.specs.declared.Error.{Error}
use Rattle.bits.specs.Fields.{told_read, told_written}
use Rattle.bits.specs.declared.Read.{Read}

pub read-determined : (position : ℕ) (a b : Result Read Error) → told_read position a ≡ told_read position b → a ≡ b
unfolding told_read
read-determined position (Ok r) (Ok s) h =
    let value : r.value ≡ s.value = cc (ap (λ f. f.answer) h) in
    let after = ap (λ f. f.position) h in
    ap Ok (λ i. record { value = value i; position = after i })
read-determined position (Ok r) (Err e) h = cc (ap (λ f. f.answer) h)
read-determined position (Err e) (Ok s) h = cc (ap (λ f. f.answer) h)
read-determined position (Err d) (Err e) h =
    let n : error_number d ≡ error_number e = cc (ap (λ f. f.answer) h) in ap Err (error-determined d e n)

-- and what a write left in the bytes
pub written-determined : (position : ℕ) (a b : Result ℕ Error) (xs ys : List ℕ)
    → told_written position a xs ≡ told_written position b ys → (a ≡ b) × (xs ≡ ys)
unfolding told_written
written-determined position (Ok p) (Ok q) xs ys h = (ap Ok (ap (λ w. w.position) h), ap (λ w. w.bytes) h)
written-determined position (Ok p) (Err e) xs ys h = absurd (cc (ap (λ w. w.answer) h))
written-determined position (Err e) (Ok q) xs ys h = absurd (cc (ap (λ w. w.answer) h))
written-determined position (Err d) (Err e) xs ys h =
    let n : error_number d ≡ error_number e = cc (ap (λ w. w.answer) h) in (ap Err (error-determined d e n), ap (λ w. w.bytes) h)
