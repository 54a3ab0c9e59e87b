-- What holds for 4 and for 8 subbands holds for S; the length of P; and a list of S numbers in an array of eight.
-- Assumes nothing.
use Prim.Native.Nat.{ℕ, ◌+◌, ◌*◌, ◌-◌, ◌≤◌}
use mathlib.Core.Path.{◌≡◌, refl, sym, ap, ◌∙◌, subst}
use mathlib.Core.Logic.{⊎_elim}
use mathlib.Core.Bool.{Bool, true, false}
use mathlib.Core.List.{List, ◌++◌}
use native.Mathlib.Omega.{arith}
use lib.Dec.{ltb, lit≤}
use lib.ListN.{length, get_or, get_or-eq_default, replicate, length-append, length-replicate, get_or-replicate, get_or-append}
use lib.Seq.{get_or-append-add}
use lib.IntN.{ℤ, pos}
use borrow.Author.Tests.{ltb-true, ltb-false}
use Rattle.laws.specs.Lists.{build}
use Rattle.laws.specs.Sums.{up_to}
use Rattle.laws.proofs.Cases.{by-test}
use Rattle.laws.proofs.Lists.{length-build, get_or-build, get_or-build-out, build-is}
use Rattle.sbc_tables.specs.Tables.{prototype, prototype4, prototype8}
use Rattle.sbc_filterbank.specs.Subbands.{Bands, padded}

-- ---- the numbers of subbands
pub for-bands : {S : ℕ} (P : ℕ → Type 0) → Bands S → P 4 → P 8 → P S
for-bands {S} P b p q = ⊎_elim (λ e. subst P (sym e) p) (λ e. subst P (sym e) q) b

pub bands-le : {S : ℕ} → Bands S → S ≤ 8
bands-le b = for-bands (λ s. s ≤ 8) b (lit≤ tt) (lit≤ tt)

-- ---- P: its length
pub prototype-length : {S : ℕ} → Bands S → length (prototype S) ≡ 10 * S
unfolding prototype prototype4 prototype8
prototype-length b = for-bands (λ s. length (prototype s) ≡ 10 * s) b refl refl

-- ---- a list in an array of eight: its length, its entries, which are the list's and 0 behind them, and its first entries
zeros : (n i : ℕ) → get_or (replicate n (pos 0)) i (pos 0) ≡ pos 0
zeros n i = go (ltb i n) refl
  where
    go : (t : Bool) → ltb i n ≡ t → get_or (replicate n (pos 0)) i (pos 0) ≡ pos 0
    go true e = get_or-replicate n i (pos 0) (pos 0) (ltb-true i n e)
    go false e = get_or-eq_default (replicate n (pos 0)) (pos 0) (omega (arith, length-replicate n (pos 0), ltb-false i n e))

pub length-padded : (xs : List ℤ) → length xs ≤ 8 → length (padded xs) ≡ 8
unfolding padded
length-padded xs h = length-append xs (replicate (8 - length xs) (pos 0)) ∙ omega (arith, length-replicate (8 - length xs) (pos 0))

pub padded-at : (xs : List ℤ) (i : ℕ) → get_or (padded xs) i (pos 0) ≡ get_or xs i (pos 0)
unfolding padded
padded-at xs i = go (ltb i (length xs)) refl
  where
    go : (t : Bool) → ltb i (length xs) ≡ t → get_or (xs ++ replicate (8 - length xs) (pos 0)) i (pos 0) ≡ get_or xs i (pos 0)
    go true e = get_or-append xs _ (pos 0) i (ltb-true i (length xs) e)
    go false e =
        let h = ltb-false i (length xs) e in
        let q : length xs + (i - length xs) ≡ i = omega arith in
        ap (λ (k : ℕ). get_or (xs ++ replicate (8 - length xs) (pos 0)) k (pos 0)) (sym q)
        ∙ get_or-append-add xs (replicate (8 - length xs) (pos 0)) (i - length xs) (pos 0) ∙ zeros (8 - length xs) (i - length xs)
        ∙ sym (get_or-eq_default xs (pos 0) h)

-- ---- n numbers in an array of eight are those that a loop has filled in
pub padded-is : (n : ℕ) (f : ℕ → ℤ) → n ≤ 8 → build 8 (up_to n f) ≡ padded (build n f)
padded-is n f h =
    build-is 8 (up_to n f) (padded (build n f)) (pos 0) (length-padded (build n f) (omega (arith, length-build n f)))
    (λ i p. by-test (λ z. z ≡ get_or (padded (build n f)) i (pos 0)) (ltb i n) (f i) (pos 0)
    (λ e. sym (padded-at (build n f) i ∙ get_or-build n f i (pos 0) (ltb-true i n e)))
    (λ e. sym (padded-at (build n f) i ∙ get_or-build-out n f i (pos 0) (ltb-false i n e))))
