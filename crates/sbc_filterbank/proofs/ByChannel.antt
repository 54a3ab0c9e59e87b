-- What belongs to two channels, in a list, as a loop over the channels leaves it: that of the first n channels replaced.
-- Assumes nothing.
use Prim.Native.Nat.{ℕ, ◌+◌, ◌<◌}
use mathlib.Core.Path.{◌≡◌, sym, ap, ◌∙◌}
use mathlib.Core.Logic.{◌≢◌}
use mathlib.Core.List.{List}
use native.Mathlib.Omega.{arith}
use lib.Dec.{ltb}
use lib.ListN.{length, get_or, set}
use borrow.Author.Tests.{lt-ltb, le-ltb, ltb-true, ltb-false}
use Rattle.std.specs.Prelude.{if◌then◌else◌}
use Rattle.laws.specs.Lists.{build}
use Rattle.laws.proofs.Cases.{by-test}
use Rattle.laws.proofs.Lists.{length-build, get_or-build, build-is}
use Rattle.laws.proofs.Arrays.{build-set}

module _ {A : Type 0} (new : ℕ → A) (d : A) (old : List A) where
  abbrev channel_at : ℕ → ℕ → A
  channel_at n c = if ltb c n then new c else get_or old c d

  unfoldable pub replaced : ℕ → List A
  replaced n = build 2 (channel_at n)

  pub length-replaced : (n : ℕ) → length (replaced n) ≡ 2
  unfolding replaced
  length-replaced n = length-build 2 (channel_at n)

  -- none yet
  pub none_replaced : length old ≡ 2 → old ≡ replaced 0
  unfolding replaced
  none_replaced two = sym (build-is 2 (channel_at 0) old d two (λ c _. rw (le-ltb c 0 (omega arith))))

  -- the next channel's is as it was
  pub not-replaced : (n : ℕ) → n < 2 → get_or (replaced n) n d ≡ get_or old n d
  unfolding replaced
  not-replaced n h = get_or-build 2 (channel_at n) n d h ∙ rw (le-ltb n n (omega arith))

  -- one channel more
  pub next_replaced : (n : ℕ) (xs : List A) (x : A) → xs ≡ replaced n → x ≡ new n → set xs n x ≡ replaced (n + 1)
  unfolding replaced
  next_replaced n xs x e q =
      ap (λ (l : List A). set l n x) e
      ∙ build-set 2 (channel_at n) (channel_at (n + 1)) n x d (q ∙ sym (rw (lt-ltb n (n + 1) (omega arith)))) same
    where
      same : (c : ℕ) → c ≢ n → channel_at n c ≡ channel_at (n + 1) c
      same c ne =
          by-test (λ z. z ≡ channel_at (n + 1) c) (ltb c n) _ _
          (λ t. sym (rw (lt-ltb c (n + 1) (omega (arith, ltb-true c n t)))))
          (λ t. sym (rw (le-ltb c (n + 1) (omega (arith, ltb-false c n t)))))
