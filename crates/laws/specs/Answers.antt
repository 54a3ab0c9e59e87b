-- What a call gives back, in document 01's terms ("Given back"): its values, or the number of its refusal. Each enum that a call
-- answers has a definition that says it in these terms, and the contracts use that definition.
use Rattle.std.specs.Prelude.{ℕ}

pub data Told (A : Type 0) : Type 0 where
  gives : A → Told A
  refuses : ℕ → Told A
