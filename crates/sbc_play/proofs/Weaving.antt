-- PCM of C channels in one list: a channel's samples are put into its places, block by block, and the channels together are a frame.
-- Assumes nothing.
use Prim.Native.Nat.{ℕ, zero, suc, ◌+◌, ◌*◌, ◌-◌, ◌/◌, ◌%◌, ◌≤◌, ◌<◌}
use mathlib.Core.Path.{◌≡◌, refl, sym, ap, ap₂, ◌∙◌}
use mathlib.Core.Logic.{◌≢◌}
use mathlib.Core.Bool.{Bool, true, false}
use mathlib.Core.List.{List, ◌++◌}
use native.Mathlib.Nat.{le_refl, not-suc-le-zero, add-zero, zero-add, add-suc, mul-add-mod_self_right, mod-eq_of_lt, mod-lt}
use native.Mathlib.Nat.{div-add-mod', div-lt_iff_lt-mul}
use native.Mathlib.Decide.{ℕ_discrete}
use native.Mathlib.Numerals.{add-one}
use native.Mathlib.Omega.{arith}
use lib.Dec.{ltb}
use lib.ListN.{length, get_or, drop, set, length-append, length-drop, length-set, get_or-append}
use lib.Seq.{get_or-set_same, get_or-set_other, get_or-append-add, get_or-drop, ext_get_or}
use lib.IntN.{ℤ, pos}
use mir.Syntax.{Width}
use mir.Val.{SFits, to_z, of_z}
use mir.Facts.{to_z-of_z}
use borrow.Author.Tests.{ltb-true, ltb-false}
use Rattle.laws.proofs.Lists.{length-build, get_or-build}
use Rattle.sbc_parameters.specs.declared.SbcParameters.{SbcParameters}
use Rattle.sbc_parameters.specs.Parameters.{channels}
use Rattle.sbc_parameters.specs.Sizes.{samples_per_channel, frame_samples}
use Rattle.sbc_frame.specs.Channels.{interleave}
use Rattle.sbc_frame.proofs.ByBlock.{place-before}
use Rattle.sbc_play.specs.Playing.{placed}

-- ---- places of the channels
-- two places of different channels differ
place-apart : (C k j r m : ℕ) → r < C → m < C → r ≢ m → k * C + r ≢ j * C + m
place-apart C k j r m p q ne e =
    ne (sym (mul-add-mod_self_right k C r ∙ mod-eq_of_lt p) ∙ ap (λ (i : ℕ). i % C) e ∙ mul-add-mod_self_right j C m ∙ mod-eq_of_lt q)

-- ---- a channel's samples put in: nothing yet, one more, and the length
module _ (C c from : ℕ) (f : ℕ → ℤ) (xs : List ℤ) where
  pub placed-none : xs ≡ placed C c from 0 f xs
  unfolding placed
  placed-none = refl

  placed-more : (n : ℕ) → set (placed C c from n f xs) ((from + n) * C + c) (f n) ≡ placed C c from (n + 1) f xs
  unfolding placed
  placed-more n = ap (λ (k : ℕ). placed C c from k f xs) (sym (add-one n))

  pub length-placed : (n : ℕ) → length (placed C c from n f xs) ≡ length xs
  unfolding placed
  length-placed zero = refl
  length-placed (suc n) = length-set (placed C c from n f xs) ((from + n) * C + c) (f n) ∙ length-placed n

  -- a place that is none of theirs keeps what it held
  placed-other : (n i : ℕ) (d : ℤ) → ((k : ℕ) → k < n → i ≢ (from + k) * C + c) → get_or (placed C c from n f xs) i d ≡ get_or xs i d
  unfolding placed
  placed-other zero i d h = refl
  placed-other (suc n) i d h =
      get_or-set_other (placed C c from n f xs) ((from + n) * C + c) i (f n) d (h n (le_refl (suc n)))
      ∙ placed-other n i d (λ k p. h k (omega arith))

  -- and theirs hold the samples
  placed_at : (n k : ℕ) (d : ℤ) → k < n → c < C → (from + n) * C ≤ length xs → get_or (placed C c from n f xs) ((from + k) * C + c) d ≡ f k
  unfolding placed
  placed_at zero k d h p l = absurd (not-suc-le-zero h)
  placed_at (suc n) k d h p l =
      go (ℕ_discrete k n) (λ q. placed_at n k d q p (omega (arith, place-before C from n (suc n) (le_refl (suc n)))))
    where
      go : Dec (k ≡ n) → (k < n → get_or (placed C c from n f xs) ((from + k) * C + c) d ≡ f k)
          → get_or (set (placed C c from n f xs) ((from + n) * C + c) (f n)) ((from + k) * C + c) d ≡ f k
      go (yes e) r =
          rw e
          (get_or-set_same (placed C c from n f xs) ((from + n) * C + c) (f n) d
          (omega (arith, length-placed n, place-before C from n (suc n) (le_refl (suc n)))))
      go (no ne) r =
          let lt : k < n = omega arith in
          get_or-set_other (placed C c from n f xs) ((from + n) * C + c) ((from + k) * C + c) (f n) d
          (λ e. omega (arith, place-before C from k n lt))
          ∙ r lt

-- a store of the next sample, as the machine reads it back
pub placed-next : (w : Width) (C c from n : ℕ) (f : ℕ → ℤ) (xs ys : List ℤ) (v : ℤ) → SFits w v → ys ≡ placed C c from n f xs → v ≡ f n
    → set ys ((from + n) * C + c) (to_z w (of_z w v)) ≡ placed C c from (n + 1) f xs
placed-next w C c from n f xs ys v s e q =
    ap₂ (λ (zs : List ℤ) (x : ℤ). set zs ((from + n) * C + c) x) e (to_z-of_z s ∙ q) ∙ placed-more C c from f xs n

-- equal samples
pub placed-ext : (C c from n : ℕ) (f g : ℕ → ℤ) (xs : List ℤ) → ((k : ℕ) → k < n → f k ≡ g k)
    → placed C c from n f xs ≡ placed C c from n g xs
unfolding placed
placed-ext C c from zero f g xs h = refl
placed-ext C c from (suc n) f g xs h =
    ap₂ (λ (ys : List ℤ) (z : ℤ). set ys ((from + n) * C + c) z) (placed-ext C c from n f g xs (λ k p. h k (omega arith)))
    (h n (le_refl (suc n)))

-- samples behind samples
pub placed-behind : (C c n m : ℕ) (f g : ℕ → ℤ) (xs : List ℤ) → ((k : ℕ) → k < m → g k ≡ f (n + k))
    → placed C c n m g (placed C c 0 n f xs) ≡ placed C c 0 (n + m) f xs
unfolding placed
placed-behind C c n zero f g xs h = rw add-zero
placed-behind C c n (suc m) f g xs h =
    ap₂ (λ (ys : List ℤ) (z : ℤ). set ys ((n + m) * C + c) z) (placed-behind C c n m f g xs (λ k p. h k (omega arith)))
    (h m (le_refl (suc m)))
    ∙ rw (add-suc, zero-add)

-- ---- a list of C channels with the first m of them put in, n samples each
unfoldable pub woven : ℕ → ℕ → (ℕ → List ℤ) → List ℤ → ℕ → List ℤ
woven C n channel xs zero = xs
woven C n channel xs (suc m) = placed C m 0 n (λ j. get_or (channel m) j (pos 0)) (woven C n channel xs m)

module _ (C n : ℕ) (channel : ℕ → List ℤ) (xs : List ℤ) where
  pub woven-none : xs ≡ woven C n channel xs 0
  unfolding woven
  woven-none = refl

  pub length-woven : (m : ℕ) → length (woven C n channel xs m) ≡ length xs
  unfolding woven
  length-woven zero = refl
  length-woven (suc m) = length-placed C m 0 (λ j. get_or (channel m) j (pos 0)) (woven C n channel xs m) n ∙ length-woven m

  -- sample k of channel r stands at k C + r
  woven-at : (m k r : ℕ) → r < m → m ≤ C → k < n → n * C ≤ length xs
      → get_or (woven C n channel xs m) (k * C + r) (pos 0) ≡ get_or (channel r) k (pos 0)
  unfolding woven
  woven-at zero k r h p q l = absurd (not-suc-le-zero h)
  woven-at (suc m) k r h p q l = go (ℕ_discrete r m) (λ lt. woven-at m k r lt (omega arith) q l)
    where
      now : List ℤ
      now = woven C n channel xs m

      put : ℕ → ℤ
      put j = get_or (channel m) j (pos 0)

      go : Dec (r ≡ m) → (r < m → get_or now (k * C + r) (pos 0) ≡ get_or (channel r) k (pos 0))
          → get_or (placed C m 0 n put now) (k * C + r) (pos 0) ≡ get_or (channel r) k (pos 0)
      go (yes e) rec =
          rw e
          (ap (λ (i : ℕ). get_or (placed C m 0 n put now) (i * C + m) (pos 0)) (sym (zero-add k))
          ∙ placed_at C m 0 put now n k (pos 0) q p (rw zero-add (omega (arith, length-woven m))))
      go (no ne) rec =
          placed-other C m 0 put now n (k * C + r) (pos 0) (λ j lt. place-apart C k (0 + j) r m (omega arith) p ne) ∙ rec (omega arith)

  -- what stands behind them stays
  woven-behind : (m i : ℕ) → m ≤ C → n * C ≤ i → get_or (woven C n channel xs m) i (pos 0) ≡ get_or xs i (pos 0)
  unfolding woven
  woven-behind zero i p h = refl
  woven-behind (suc m) i p h =
      let e : (0 + n) * C ≡ n * C = rw zero-add in
      placed-other C m 0 (λ j. get_or (channel m) j (pos 0)) (woven C n channel xs m) n i (pos 0)
      (λ k lt q. omega (arith, place-before C 0 k n lt))
      ∙ woven-behind m i (omega arith) h

-- ---- all channels of a frame put in are the frame, and what stood behind it stays
module _ (p : SbcParameters) (channel : ℕ → List ℤ) (xs : List ℤ) (some : 0 < channels p) (fits : frame_samples p ≤ length xs) where
  woven-frame : woven (channels p) (samples_per_channel p) channel xs (channels p) ≡ interleave p channel ++ drop (frame_samples p) xs
  unfolding interleave frame_samples
  woven-frame =
      ext_get_or (pos 0) whole (frame ++ drop (frame_samples p) xs)
      (length-woven (channels p) (samples_per_channel p) channel xs (channels p)
      ∙ omega (arith, length-append frame (drop (frame_samples p) xs), length-frame, length-drop (frame_samples p) xs))
      (λ i h. go i (ltb i (frame_samples p)) refl)
    where
      whole : List ℤ
      whole = woven (channels p) (samples_per_channel p) channel xs (channels p)

      frame : List ℤ
      frame = interleave p channel

      length-frame : length frame ≡ frame_samples p
      length-frame = length-build (frame_samples p) _

      go : (i : ℕ) (t : Bool) → ltb i (frame_samples p) ≡ t → get_or whole i (pos 0) ≡ get_or (frame ++ drop (frame_samples p) xs) i (pos 0)
      go i true e =
          let h = ltb-true i (frame_samples p) e in
          ap (λ (k : ℕ). get_or whole k (pos 0)) (sym (div-add-mod' i (channels p)))
          ∙ woven-at (channels p) (samples_per_channel p) channel xs (channels p) (i / channels p) (i % channels p) (mod-lt i some)
          (le_refl (channels p)) ((div-lt_iff_lt-mul some).1 h) fits
          ∙ sym (get_or-append frame (drop (frame_samples p) xs) (pos 0) i (omega (arith, length-frame))
          ∙ get_or-build (frame_samples p) _ i (pos 0) h)
      go i false e =
          let h = ltb-false i (frame_samples p) e in
          let q : i ≡ length frame + (i - frame_samples p) = omega (arith, length-frame) in
          let r : frame_samples p + (i - frame_samples p) ≡ i = omega arith in
          woven-behind (channels p) (samples_per_channel p) channel xs (channels p) i (le_refl (channels p)) h
          ∙ ap (λ (k : ℕ). get_or xs k (pos 0)) (sym r)
          ∙ sym (ap (λ (k : ℕ). get_or (frame ++ drop (frame_samples p) xs) k (pos 0)) q
          ∙ get_or-append-add frame (drop (frame_samples p) xs) (i - frame_samples p) (pos 0)
          ∙ get_or-drop (frame_samples p) xs (i - frame_samples p) (pos 0))

  pub woven-is : (C m : ℕ) → C ≡ channels p → m ≡ channels p
      → woven C (samples_per_channel p) channel xs m ≡ interleave p channel ++ drop (frame_samples p) xs
  woven-is C m e q = ap₂ (λ (k l : ℕ). woven k (samples_per_channel p) channel xs l) e q ∙ woven-frame
