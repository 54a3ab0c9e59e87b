-- The greatest absolute values of the subbands, block by block, and their scale factors.
-- Assumes nothing.
use Prim.Native.Nat.{ℕ, ◌+◌, ◌<◌, max}
use mathlib.Core.Path.{◌≡◌, refl, ap, ◌∙◌}
use mathlib.Core.List.{List, []}
use native.Mathlib.Numerals.{add-one}
use lib.ListN.{get_or, replicate}
use lib.IntN.{ℤ, nat_abs}
use Rattle.laws.specs.Lists.{build, collect, greatest}
use Rattle.laws.proofs.Lists.{get_or-build, build-ext}
use Rattle.sbc_quantizer.specs.Quantizing.{scale_factor}
use Rattle.sbc_frame.specs.Arrays.{entry}
use Rattle.sbc_frame.specs.Encoding.{sample_at}
use Rattle.sbc_factors.specs.Factors.{maximum_in, maxima_in, raised}

-- the greatest of none
pub maxima_none : (xs : List (List ℤ)) → maxima_in 0 xs ≡ replicate 8 0
unfolding maxima_in greatest build collect
maxima_none xs = refl

-- a subband's entry
maximum-at : (n : ℕ) (xs : List (List ℤ)) (s : ℕ) → s < 8 → entry (maxima_in n xs) s ≡ maximum_in n xs s
unfolding maxima_in
maximum-at n xs s h = get_or-build 8 (maximum_in n xs) s 0 h

-- one more
greatest-next : (n : ℕ) (f : ℕ → ℕ) → max (greatest n f) (f n) ≡ greatest (n + 1) f
unfolding greatest
greatest-next n f = rw add-one

-- one block more
pub maxima_next : (n : ℕ) (xs : List (List ℤ)) → raised (maxima_in n xs) (get_or xs n []) ≡ maxima_in (n + 1) xs
unfolding raised maxima_in
maxima_next n xs =
    build-ext 8 _ (maximum_in (n + 1) xs)
    (λ s k. ap (λ (i : ℕ). max i (nat_abs (sample_at xs n s))) (maximum-at n xs s k) ∙ greatest-next n (λ b. nat_abs (sample_at xs b s)))

-- the scale factor of a subband's entry
pub factor_of : (n : ℕ) (xs : List (List ℤ)) (s : ℕ) → s < 8 → scale_factor (entry (maxima_in n xs) s) ≡ scale_factor (maximum_in n xs s)
factor_of n xs s h = ap scale_factor (maximum-at n xs s h)
