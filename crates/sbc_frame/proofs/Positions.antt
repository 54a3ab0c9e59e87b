-- Where the fields of a frame lie: all inside the frame, whatever its scale factors are, so that reading never runs
-- out; and they fill it but for fewer than eight bits.
-- Assumes nothing.
use Prim.Native.Nat.{ℕ, zero, suc, ◌+◌, ◌-◌, ◌*◌, ◌%◌, ◌≤◌, ◌<◌}
use mathlib.Core.Path.{◌≡◌, ap, ◌∙◌}
use mathlib.Core.Logic.{◌⊎◌, inl, inr}
use mathlib.Core.Bool.{true}
use mathlib.Core.List.{List, []}
use native.Mathlib.Nat.{le_refl, le_of_suc-le-suc, eq-or-lt_of_le, mul_comm, mul_assoc, suc-mul, mul-suc, mul-le-mul_right}
use native.Mathlib.Omega.{arith}
use lib.ListN.{length, get_or}
use Rattle.laws.specs.Lists.{total}
use Rattle.sbc_parameters.specs.declared.SbcParameters.{SbcParameters}
use Rattle.sbc_parameters.specs.Parameters.{channels, accepted}
use Rattle.sbc_parameters.specs.Sizes.{join_count, side_bits, block_bits, audio_bits, frame_length}
use Rattle.sbc_parameters.proofs.Accepted.{channels-range, subbands-cases}
use Rattle.sbc_allocation.specs.Allocate.{allocation_table}
use Rattle.sbc_frame.specs.Fields.{width_at, channel_width}
use Rattle.sbc_frame.specs.Layout.{factor_position, value_position}
use Rattle.sbc_frame.specs.Arrays.{entry}
use Rattle.sbc_frame.proofs.Widths.{Enough, rows-enough, block-width, rows-width}

-- ---- one part of many
-- a term and those before it are at most the whole sum
pub total-below : (n : ℕ) (w : ℕ → ℕ) (i : ℕ) → i < n → total i w + w i ≤ total n w
unfolding total
total-below zero w i h = absurd (omega arith)
total-below (suc n) w i h = go (total-below n w i) (eq-or-lt_of_le (le_of_suc-le-suc h))
  where
    go : (i < n → total i w + w i ≤ total n w) → (i ≡ n) ⊎ (i < n) → total i w + w i ≤ total n w + w n
    go rec (inl e) = rw e (le_refl (total n w + w n))
    go rec (inr l) = omega (arith, rec l)

-- and so of equal terms
pub times_below : (n k i : ℕ) → i < n → i * k + k ≤ n * k
times_below n k i h = omega (arith, suc-mul i k, mul-le-mul_right k h)

-- the scale factors by channel and subband are those that the sizes count
pub side-bits : (p : SbcParameters) → join_count p + channels p * (4 * p.subbands) ≡ side_bits p
unfolding side_bits
side-bits p =
    ap (λ (n : ℕ). join_count p + n) (mul_comm (channels p) (4 * p.subbands) ∙ mul_assoc 4 p.subbands (channels p))

-- one part and the others are all of them
one-and-others : (k n : ℕ) → 1 ≤ n → k + k * (n - 1) ≡ k * n
one-and-others k zero h = absurd (omega arith)
one-and-others k (suc n) h =
    let e : suc n - 1 ≡ n = omega arith in
    omega (arith, mul-suc k n, ap (λ (m : ℕ). k * m) e)

-- the bits of a body, with its numbers in rows of eight: the join flags, the scale factors of one channel and of the other, the values
abbrev pub body_width : SbcParameters → List (List ℕ) → ℕ
body_width p table =
    join_count p * 1 + p.subbands * 4 + p.subbands * (channels p - 1) * 4
    + p.blocks * (total 8 (entry (get_or table 0 [])) + total 8 (entry (get_or table 1 [])))

-- ---- the fields
-- the join flags are inside
pub flags-inside : (p : SbcParameters) → 32 + join_count p ≤ 8 * frame_length p
unfolding frame_length audio_bits
flags-inside p = omega arith

module _ (p : SbcParameters) (a : accepted p ≡ true) where
  -- the scale factors fill whole bytes
  even : p.subbands * channels p % 2 ≡ 0
  even = subbands-cases (λ n. n * channels p % 2 ≡ 0) p a (omega arith) (omega arith)

  -- a frame has room for its header, its checksum, the side bits and the bits of all blocks
  pub frame-room : 32 + (side_bits p + p.blocks * block_bits p) ≤ 8 * frame_length p
  unfolding side_bits frame_length audio_bits
  frame-room = omega (arith, even)

  -- and fewer than eight bits are spare
  frame-spare : 8 * frame_length p < 32 + (side_bits p + p.blocks * block_bits p) + 8
  unfolding side_bits frame_length audio_bits
  frame-spare = omega (arith, even)

  -- every scale factor is inside
  pub factor-inside : (c s : ℕ) → c < channels p → s < p.subbands → factor_position p c s + 4 ≤ 8 * frame_length p
  unfolding factor_position
  factor-inside c s hc hs = omega (arith, frame-room, side-bits p, times_below (channels p) (4 * p.subbands) c hc)

  -- every quantized value is inside, whatever the scale factors
  pub value-inside : (factors : List (List ℕ)) → Enough p factors → (b c s : ℕ) → b < p.blocks → c < channels p → s < p.subbands
      → value_position p factors b c s + width_at p factors c s ≤ 8 * frame_length p
  unfolding value_position channel_width
  value-inside factors enough b c s hb hc hs =
      let w : ℕ → ℕ = channel_width p factors in
      omega (
        arith,
        frame-room,
        ap (λ (n : ℕ). p.blocks * n) (block-width p factors a enough),
        times_below p.blocks (total (channels p) w) b hb,
        total-below (channels p) w c hc,
        total-below p.subbands (width_at p factors c) s hs,
      )

  -- ---- the body
  module _ (factors : List (List ℕ)) (long : (c : ℕ) → c < 2 → length (get_or factors c []) ≡ 8) where
    -- it has the bits that the sizes count
    body-width : body_width p (allocation_table p factors) ≡ side_bits p + p.blocks * block_bits p
    unfolding side_bits
    body-width =
        omega (
          arith,
          one-and-others p.subbands (channels p) (channels-range p).0,
          ap (λ (n : ℕ). p.blocks * n) (rows-width p a factors (rows-enough p a factors long)),
        )

    -- and fills the bytes behind the checksum but for fewer than eight bits
    pub body-room : (size : ℕ) → size + 4 ≡ frame_length p
        → (body_width p (allocation_table p factors) ≤ 8 * size) × (8 * size < body_width p (allocation_table p factors) + 8)
    body-room size e = (omega (arith, body-width, frame-room), omega (arith, body-width, frame-spare))
