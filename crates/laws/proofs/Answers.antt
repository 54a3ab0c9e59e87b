-- What an answer says: a refusal and what is given are told apart.
-- Assumes nothing.
use Prim.Native.Nat.{ℕ}
use mathlib.Core.Path.{◌≡◌}
use native.Mathlib.Omega.{arith}
use Rattle.laws.specs.Answers.{Told, gives, refuses}

-- what is given is given by one answer only
pub gives_same : {A : Type 0} (a b : A) → gives a ≡ gives b → a ≡ b
gives_same a b q = cc

-- a refusal has one number
pub refuses-same : {A : Type 0} (m n : ℕ) → ◌≡◌ {A = Told A} (refuses m) (refuses n) → m ≡ n
refuses-same m n q = cc

-- what is given is no refusal
pub gives-refuses : {A : Type 0} (a : A) (n : ℕ) → gives a ≡ refuses n → ⊥
gives-refuses a n q = let z : ◌≡◌ {A = ℕ} 0 1 = cc in omega arith
