-- A coder's way through a stream, by what its trait says of a call (`codes`) and of the end (`ends`).
use Rattle.std.specs.Prelude.{ℕ, List, [], ◌++◌, drop}
use Rattle.codec.specs.declared.Error.{Error}

-- From one coder, with some bytes held, to another, with others held, by calls and by bytes that come: those that come are put behind
-- those that are held, a call sees all that are held, and as many as it takes go from their front.
pub data Reaches {C : Type 0} (codes : C → List ℕ → ℕ → C → Type 0) : C → List ℕ → List ℕ → C → List ℕ → Type 0 where
  starts : {coder : C} {held : List ℕ} → Reaches codes coder held [] coder held
  comes : {first next : C} {before came held : List ℕ} (more : List ℕ) → Reaches codes first before came next held
      → Reaches codes first before (came ++ more) next (held ++ more)
  takes : {first next last : C} {before came held : List ℕ} (used : ℕ) → Reaches codes first before came next held
      → codes next held used last → Reaches codes first before came last (drop used held)

-- A whole run over the bytes that came: they are coded, with none held at first; then their end is said; then what is held is coded,
-- while nothing more comes, until a call takes nothing.
pub record Ran {C : Type 0} (codes : C → List ℕ → ℕ → C → Type 0) (ends : C → C → Type 0) (first : C) (came : List ℕ) (last : C) : Type 0 where
  pub reached : C
  pub held : List ℕ
  pub ended : C
  pub before : C
  pub left : List ℕ
  pub coded : Reaches codes first [] came reached held
  pub finished : ends reached ended
  pub emptied : Reaches codes ended held [] before left
  pub stalled : codes before left 0 last

-- A run over the bytes that came which a refusal stopped: before their end was said, or after it.
pub data Broke {C : Type 0} (codes : C → List ℕ → ℕ → C → Type 0) (ends : C → C → Type 0) (refuses : C → List ℕ → Error → C → Type 0) :
    C → List ℕ → Error → C → Type 0 where
  before_end : {first reached last : C} {came held : List ℕ} {error : Error} → Reaches codes first [] came reached held
      → refuses reached held error last → Broke codes ends refuses first came error last
  behind_end : {first reached ended before last : C} {came held left : List ℕ} {error : Error} → Reaches codes first [] came reached held
      → ends reached ended → Reaches codes ended held [] before left → refuses before left error last
      → Broke codes ends refuses first came error last
