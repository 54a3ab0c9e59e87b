-- An array that is made by calls of one function at each index, which stays as it is and gives what f says of its index.
-- Assumes nothing.
use Rattle.std.proofs.Common.{ℕ, zero, suc, ◌+◌, ◌≡◌, ◌<◌, List, sym, subst, slice_index_or, arith, ◌∙◌}
use Rattle.std.specs.Array.{IsFromFnResult, IsFromFnResultFrom}
use native.Mathlib.Nat.{add-zero}
use denote.Param.Members.{Mut, Called}
use Rattle.laws.specs.Lists.{build}
use Rattle.laws.proofs.Lists.{build-is}

module _ {F B : Type 0} {g : Mut F (ℕ × Unit {0}) B} {h : F} (ys : List B) (f : ℕ → B) (d : B) where
  -- the entries from i on
  made_from : (n i : ℕ) → ((j : ℕ) (y : B) (q : F) → j < i + n → Called g h (j, tt) y q → (q ≡ h) × (y ≡ f j))
      → IsFromFnResultFrom g h ys i n → (k : ℕ) → k < n → f (i + k) ≡ slice_index_or ys (i + k) d
  made_from zero i acts r k low = absurd (omega arith)
  made_from (suc n) i acts (q, y, at, call, more) zero low =
      let it = acts i y q (omega arith) call in
      let P : ℕ → Type 0 = λ j. f j ≡ slice_index_or ys j d in
      subst P (sym (add-zero i)) (sym it.1 ∙ sym (at.1 d))
  made_from (suc n) i acts (q, y, at, call, more) (suc k) low =
      let it = acts i y q (omega arith) call in
      let P : ℕ → Type 0 = λ j. f j ≡ slice_index_or ys j d in
      let e : i + 1 + k ≡ i + suc k = omega arith in
      subst P e
      (made_from n (i + 1) (λ j z p l. acts j z p (omega arith)) (subst (λ (s : F). IsFromFnResultFrom g s ys (i + 1) n) it.0 more) k
      (omega arith))

  pub made : {n : ℕ} → IsFromFnResult g h ys n → ((j : ℕ) (y : B) (q : F) → j < n → Called g h (j, tt) y q → (q ≡ h) × (y ≡ f j))
      → ys ≡ build n f
  made {n = n} r acts =
      let P : ℕ → Type 0 = λ j. f j ≡ slice_index_or ys j d in
      sym (build-is n f ys d r.long
      (λ k low.
      let e : 0 + k ≡ k = omega arith in
      subst P e (made_from n 0 (λ j y q l. acts j y q (omega arith)) r.each k low)))
