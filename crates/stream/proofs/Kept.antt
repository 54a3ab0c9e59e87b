-- What `keep` leaves of what is held: all behind the bytes that are used.
-- Assumes nothing.
use Rattle.std.proofs.Common.{◌≡◌, ℕ, ◌+◌, ◌-◌, ◌≤◌, inl, inr, List, length, take, drop, sym, ap, ap₂, ◌∙◌, arith, length-take}
use Rattle.std.proofs.Math.ListN.{drop_of_length-le}
use Rattle.std.proofs.lemmas.Bool.{cases_lt}
use Rattle.std.proofs.lemmas.Grind.{common_steps}
use Rattle.std.proofs.lemmas.List.{drop-take}
use Rattle.stream.specs.Kept.{keeps, kept_count, kept}

-- none of what is held is left where more are used
pub kept_count_is : (size used held : ℕ) → held ≤ size → kept_count size used held ≡ held - used
unfolding keeps kept_count
kept_count_is size used held fits = grind (arith, common_steps)

kept-front : (bytes : List ℕ) (used held : ℕ) → used ≤ held → held ≤ length bytes
    → take (held - used) (kept bytes used held) ≡ take (held - used) (drop used bytes)
unfolding keeps kept
kept-front bytes used held u h = grind (arith, common_steps)

front-drop : (bytes : List ℕ) (used more held : ℕ) → held ≡ used + more → drop used (take held bytes) ≡ take more (drop used bytes)
front-drop bytes used more held e = rw e (drop-take used more bytes)

pub kept_left : (bytes new : List ℕ) (used held left : ℕ) → held ≤ length bytes → left ≡ kept_count (length bytes) used held
    → new ≡ kept bytes used held → take left new ≡ drop used (take held bytes)
kept_left bytes new used held left fits e q =
    let count : left ≡ held - used = e ∙ kept_count_is (length bytes) used held fits in
    elim (cases_lt held used) [
      | inl more ↦
          let none : left ≡ 0 = omega arith in
          ap (λ n. take n new) none ∙ sym (drop_of_length-le (take held bytes) (omega (arith, length-take held bytes)))
      | inr fewer ↦
          ap₂ (λ n l. take n l) count q ∙ kept-front bytes used held fewer fits ∙ sym (front-drop bytes used (held - used) held (omega arith))
    ]
