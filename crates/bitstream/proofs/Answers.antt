-- What is told of an answer, with the reader or the writer after the call, determines both: a contract on what is told fixes what is
-- returned.
-- Assumes nothing.
use mathlib.Core.Path.{◌≡◌, ap}
use Rattle.std.specs.Prelude.{Result}
use Rattle.laws.specs.Answers.{Told}
use Rattle.codec.specs.Answers.{told}
use Rattle.codec.specs.declared.Error.{Error}
use Rattle.codec.proofs.Answering.{told-determined}

-- what is told beside any state, a reader or a writer
pub both-determined : {A S : Type 0} (a b : Result A Error) (r s : S) → ◌≡◌ {A = Told A × S} (told a, r) (told b, s) → (a ≡ b) × (r ≡ s)
both-determined a b r s h = (told-determined a b (ap (λ p. p.0) h), ap (λ p. p.1) h)
