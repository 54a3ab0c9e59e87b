-- A choice by a test, shown for each value of the test.
-- Assumes nothing.
use mathlib.Core.Path.{◌≡◌, refl}
use mathlib.Core.Bool.{Bool, true, false, ◌&&◌}
use Rattle.std.specs.Prelude.{if◌then◌else◌}

-- what holds of each of two choices, in its case, holds of the choice: by one test, and by two at once
module _ {κ} {A : Type 0} (P : A → Type κ) where
  pub by-test : (b : Bool) (x y : A) → (b ≡ true → P x) → (b ≡ false → P y) → P (if b then x else y)
  by-test true x y f g = f refl
  by-test false x y f g = g refl

  pub by_both : (a b : Bool) (x y : A) → (a ≡ true → b ≡ true → P x) → (a ≡ false → P y) → (b ≡ false → P y) → P (if a && b then x else y)
  by_both true true x y f g h = f refl refl
  by_both true false x y f g h = h refl
  by_both false b x y f g h = g refl
