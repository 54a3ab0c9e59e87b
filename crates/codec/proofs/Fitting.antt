-- How many whole frames fit into the input and the output of a call.
-- Assumes nothing.
use Prim.Native.Nat.{ℕ, suc, ◌+◌, ◌-◌, ◌*◌, ◌/◌, ◌≤◌, ◌<◌}
use mathlib.Core.Path.{◌≡◌}
use native.Mathlib.Nat.{zero-min, min-zero, div-eq_of_lt, div-eq-sub-div, div-mul-le_self, mul-le-mul_right, le_trans}
use native.Mathlib.Omega.{arith}
use Rattle.codec.specs.Answers.{whole_frames}

module _ (i l o s : ℕ) where
  -- none in an input under one frame
  pub none_in : i < l → whole_frames i l o s ≡ 0
  unfolding whole_frames
  none_in h = rw (div-eq_of_lt h) (zero-min _)

  -- none in an output under one frame
  pub none_out : o < s → whole_frames i l o s ≡ 0
  unfolding whole_frames
  none_out h = rw (div-eq_of_lt h) (min-zero _)

  -- one, and as many as fit behind it
  pub one_in : 0 < l → 0 < s → l ≤ i → s ≤ o → whole_frames i l o s ≡ suc (whole_frames (i - l) l (o - s) s)
  unfolding whole_frames
  one_in hl hs hi ho =
      let ei : i / l ≡ (i - l) / l + 1 = div-eq-sub-div hl hi in
      let eo : o / s ≡ (o - s) / s + 1 = div-eq-sub-div hs ho in
      omega arith

  -- they fit into the input
  pub fits_in : whole_frames i l o s * l ≤ i
  unfolding whole_frames
  fits_in = le_trans (mul-le-mul_right l (omega arith)) (div-mul-le_self i l)

  -- and into the output
  pub fits_out : whole_frames i l o s * s ≤ o
  unfolding whole_frames
  fits_out = le_trans (mul-le-mul_right s (omega arith)) (div-mul-le_self o s)
