-- What is told of an answer determines it: a contract on what is told fixes what is returned.
-- Assumes nothing.
use Prim.Native.Nat.{ℕ, ◌-◌}
use mathlib.Core.Path.{◌≡◌, refl, sym, ap, ◌∙◌}
use mathlib.Core.List.{List, [], ◌∷◌}
use lib.ListN.{get_or}
use Rattle.codec.specs.Errors.{error_number}
use Rattle.laws.proofs.Answers.{gives_same, refuses-same, gives-refuses}
use Rattle.codec.specs.Answers.{told}
use Rattle.codec.specs.declared.Error.{Error}
use Rattle.codec.specs.declared.Error.TheVariants.{Incomplete, InvalidHeader, InvalidParameter, InvalidData, BufferTooSmall}
use Rattle.std.specs.Prelude.{Result, Ok, Err}

errors : List Error
errors = Incomplete ∷ InvalidHeader ∷ InvalidParameter ∷ InvalidData ∷ BufferTooSmall ∷ []

error-back : (e : Error) → get_or errors (error_number e - 1) Incomplete ≡ e
unfolding errors
error-back Incomplete = refl
error-back InvalidHeader = refl
error-back InvalidParameter = refl
error-back InvalidData = refl
error-back BufferTooSmall = refl

-- a refusal's number determines the refusal
pub error-determined : (e f : Error) → error_number e ≡ error_number f → e ≡ f
error-determined e f h = sym (error-back e) ∙ ap (λ (n : ℕ). get_or errors (n - 1) Incomplete) h ∙ error-back f

-- what is told of an answer determines it
pub told-determined : {A : Type 0} (a b : Result A Error) → told a ≡ told b → a ≡ b
told-determined (Ok x) (Ok y) h = ap Ok (gives_same x y h)
told-determined (Ok x) (Err f) h = absurd (gives-refuses x (error_number f) h)
told-determined (Err e) (Ok y) h = absurd (gives-refuses y (error_number e) (sym h))
told-determined {A} (Err e) (Err f) h =
    ap Err (error-determined e f (refuses-same {A = A} (error_number e) (error_number f) h))
