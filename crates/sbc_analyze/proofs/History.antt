-- The history moved in place: it is copied up by S, and a loop puts the new samples in front. What is stored changes one place
-- of a list that is one function below a place and another from there on.
-- Assumes nothing.
use Prim.Native.Nat.{ℕ, ◌+◌, ◌*◌, ◌-◌, ◌≤◌, ◌<◌}
use mathlib.Core.Path.{◌≡◌, refl, sym, ap, ◌∙◌}
use mathlib.Core.Logic.{◌≢◌}
use mathlib.Core.List.{List}
use native.Mathlib.Omega.{arith}
use lib.Dec.{ltb}
use lib.ListN.{length, get_or, set}
use lib.IntN.{ℤ, pos}
use mir.Syntax.{w16}
use mir.Val.{SFits, to_z, of_z}
use mir.Facts.{to_z-of_z}
use borrow.Author.Tests.{lt-ltb, le-ltb, ltb-true, ltb-false}
use Rattle.std.specs.Prelude.{if◌then◌else◌}
use Rattle.std.specs.List.{CopiedTo, SameBelow, SameFrom}
use Rattle.laws.specs.Lists.{build}
use Rattle.laws.proofs.Cases.{by-test}
use Rattle.laws.proofs.Arrays.{build-set}
use Rattle.laws.proofs.Lists.{length-build, get_or-build, build-is, build-ext}
use Rattle.sbc_filterbank.specs.Analysis.{shifted, shifted_at}
use Rattle.sbc_analyze.specs.Fold.{spliced_at, moved_up, entering}

module _ (n : ℕ) (f g : ℕ → ℤ) where
  spliced-below : (k : ℕ) → k < n → spliced_at n f g k ≡ f k
  spliced-below k h = rw (lt-ltb k n h)

  spliced-from : (k : ℕ) → n ≤ k → spliced_at n f g k ≡ g k
  spliced-from k h = rw (le-ltb k n h)

  -- two joins at neighbouring places agree elsewhere
  spliced-next : (k : ℕ) → k ≢ n → spliced_at n f g k ≡ spliced_at (n + 1) f g k
  spliced-next k ne =
      by-test (λ z. z ≡ spliced_at (n + 1) f g k) (ltb k n) (f k) (g k)
      (λ e. sym (rw (lt-ltb k (n + 1) (omega (arith, ltb-true k n e)))))
      (λ e. sym (rw (le-ltb k (n + 1) (omega (arith, ltb-false k n e)))))

-- ---- the loop's store, as the machine reads back what is stored
module _ (n : ℕ) (f g : ℕ → ℤ) (k : ℕ) (xs : List ℤ) (v : ℤ) (fits : SFits w16 v) where
  pub store_up : xs ≡ build n (spliced_at k f g) → v ≡ f k → set xs k (to_z w16 (of_z w16 v)) ≡ build n (spliced_at (k + 1) f g)
  store_up e q =
      ap (λ (l : List ℤ). set l k (to_z w16 (of_z w16 v))) e
      ∙ build-set n (spliced_at k f g) (spliced_at (k + 1) f g) k _ (pos 0)
      (to_z-of_z fits ∙ q ∙ sym (spliced-below (k + 1) f g k (omega arith))) (spliced-next k f g)

-- ---- the loop's start: nothing has entered yet
module _ (X : List ℤ) where
  pub none-entered : (f : ℕ → ℤ) → X ≡ build (length X) (spliced_at 0 f (λ k. get_or X k (pos 0)))
  none-entered f = sym (build-is (length X) _ X (pos 0) refl (λ k h. spliced-from 0 f (λ i. get_or X i (pos 0)) k (omega arith)))

-- ---- the first 9 S places copied to behind the first S
pub moved-is : (S n : ℕ) (X ys : List ℤ) → n ≡ 9 * S → length ys ≡ length X → CopiedTo X ys 0 S n → SameBelow X ys S
    → SameFrom X ys (S + n) → ys ≡ build (length X) (spliced_at S (λ k. get_or X k (pos 0)) (moved_up S (9 * S) X))
moved-is S n X ys q long copied below from =
    sym (build-is (length X) _ ys (pos 0) long
    (λ k h. by-test (λ z. z ≡ get_or ys k (pos 0)) (ltb k S) (get_or X k (pos 0)) (moved_up S (9 * S) X k)
    (λ e. sym (below k (pos 0) (ltb-true k S e)))
    (λ e. by-test (λ z. z ≡ get_or ys k (pos 0)) (ltb k (9 * S + S)) (get_or X (k - S) (pos 0)) (get_or X k (pos 0))
    (λ t. sym (copied k (pos 0) (ltb-false k S e) (omega (arith, ltb-true k (9 * S + S) t)) ∙ ap (λ (i : ℕ). get_or X i (pos 0))
    (omega arith)))
    (λ t. sym (from k (pos 0) (omega (arith, ltb-false k (9 * S + S) t)))))))

-- ---- the two steps are the shift of the definition, where what moves comes to its first 10 S places
pub shifted-is : (S count : ℕ) (X moved next input : List ℤ) → count + S ≡ 10 * S
    → moved ≡ build (length X) (spliced_at S (λ k. get_or X k (pos 0)) (moved_up S count X))
    → next ≡ build (length moved) (spliced_at S (entering S input) (λ k. get_or moved k (pos 0))) → next ≡ shifted S X input
unfolding shifted
shifted-is S count X moved next input t m e =
    e ∙ ap (λ (n : ℕ). build n (spliced_at S (entering S input) (λ k. get_or moved k (pos 0)))) (ap length m ∙ length-build (length X) _)
    ∙ build-ext (length X) _ (shifted_at S X input)
    (λ k h. by-test (λ z. z ≡ shifted_at S X input k) (ltb k S) (entering S input k) (get_or moved k (pos 0))
    (λ q. sym (rw q))
    (λ q. ap (λ (l : List ℤ). get_or l k (pos 0)) m ∙ get_or-build (length X) _ k (pos 0) h
    ∙ spliced-from S (λ i. get_or X i (pos 0)) (moved_up S count X) k (ltb-false k S q)
    ∙ ap (λ (n : ℕ). if ltb k n then get_or X (k - S) (pos 0) else get_or X k (pos 0)) t ∙ sym (rw q)))
