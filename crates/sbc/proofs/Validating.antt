-- What the answer of `validate` says of a set, and that a bitpool under 2 is none that a header can say.
-- Assumes nothing.
use Prim.Native.Nat.{◌<◌}
use mathlib.Core.Path.{◌≡◌, sym}
use mathlib.Core.Bool.{true, false}
use borrow.Author.Tests.{lt-leb}
use Rattle.std.specs.Prelude.{Ok, Err}
use Rattle.codec.specs.Errors.{error_number}
use Rattle.codec.specs.Answers.{told}
use Rattle.codec.specs.declared.Error.{Error}
use Rattle.laws.specs.Answers.{Told, gives, refuses}
use Rattle.laws.specs.Lists.{all_of}
use Rattle.laws.proofs.Answers.{gives-refuses, refuses-same}
use Rattle.laws.proofs.Cases.{by-test}
use Rattle.laws.proofs.Tests.{all-false}
use Rattle.sbc_parameters.specs.Parameters.{field_tests, accepted, validate}
use Rattle.sbc_parameters.specs.declared.SbcParameters.{SbcParameters}

pub validated-accepted : (p : SbcParameters) → told {A = Unit} (Ok tt) ≡ validate p → accepted p ≡ true
unfolding validate
validated-accepted p =
    by-test (λ (t : Told Unit). gives tt ≡ t → accepted p ≡ true) (accepted p) (gives tt) (refuses 3) (λ a _. a)
    (λ _ h. absurd (gives-refuses tt 3 h))

pub validated-refused : (p : SbcParameters) (e : Error) → told {A = Unit} (Err e) ≡ validate p → (accepted p ≡ false) × (error_number e ≡ 3)
unfolding validate
validated-refused p e =
    by-test (λ (t : Told Unit). refuses (error_number e) ≡ t → (accepted p ≡ false) × (error_number e ≡ 3)) (accepted p) (gives tt) (refuses 3)
    (λ _ h. absurd (gives-refuses tt (error_number e) (sym h)))
    (λ a h. (a, refuses-same {A = Unit} (error_number e) 3 h))

-- the range of the bitpool is the fourth of the tests
pub low_bitpool : (p : SbcParameters) → p.bitpool < 2 → all_of (field_tests p) ≡ false
unfolding field_tests
low_bitpool p h = all-false (field_tests p) 3 (lt-leb 2 p.bitpool h)
