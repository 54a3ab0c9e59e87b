-- A row of eight that a loop fills from the front: nothing filled yet, and one entry more.
-- Assumes nothing.
use Prim.Native.Nat.{ℕ, ◌+◌}
use mathlib.Core.Path.{◌≡◌, refl, sym, ap, ◌∙◌}
use mathlib.Core.List.{List}
use native.Mathlib.Omega.{arith}
use lib.Dec.{ltb}
use lib.ListN.{set, replicate}
use borrow.Author.Tests.{lt-ltb, le-ltb, ltb-true, ltb-false}
use Rattle.laws.specs.Lists.{build, collect}
use Rattle.laws.proofs.Cases.{by-test}
use Rattle.laws.proofs.Arrays.{build-set}
use Rattle.sbc_frame.specs.Arrays.{below}

module _ (f : ℕ → ℕ) where
  pub row-none : replicate 8 0 ≡ build 8 (below 0 f)
  unfolding build collect
  row-none = refl

  pub row_next : (s : ℕ) (row : List ℕ) (v : ℕ) → row ≡ build 8 (below s f) → v ≡ f s → set row s v ≡ build 8 (below (s + 1) f)
  row_next s row v e q =
      ap (λ (xs : List ℕ). set xs s v) e
      ∙ build-set 8 (below s f) (below (s + 1) f) s v 0 (q ∙ sym (rw (lt-ltb s (s + 1) (omega arith))))
      (λ k ne. by-test (λ (z : ℕ). z ≡ below (s + 1) f k) (ltb k s) (f k) 0
      (λ t. sym (rw (lt-ltb k (s + 1) (omega (arith, ltb-true k s t)))))
      (λ t. sym (rw (le-ltb k (s + 1) (omega (arith, ltb-false k s t))))))
