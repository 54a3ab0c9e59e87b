-- Where the fields stand in the frame that is written: the bits of each at its position.
-- Assumes nothing.
use Prim.Native.Nat.{ℕ, ◌+◌, ◌-◌, ◌*◌, ◌<◌}
use mathlib.Core.Path.{◌≡◌, refl, sym, ap, ap₂, ◌∙◌}
use mathlib.Core.Bool.{Bool, true, false}
use mathlib.Core.List.{List, [], ◌∷◌, ◌++◌, append_assoc}
use native.Mathlib.Nat.{mul-one, mul_comm}
use native.Mathlib.Omega.{arith}
use lib.ListN.{length, length-append, length-replicate}
use Rattle.laws.specs.Lists.{collect, total}
use Rattle.laws.specs.Bits.{bits_of, bits_of_bytes}
use Rattle.laws.proofs.Lists.{total-const, length-collect, At, at-inside, at-append, at_from, at-collect}
use Rattle.laws.proofs.Bits.{length-bits_of, bits-bytes, drop-bytes}
use Rattle.sbc_parameters.specs.declared.SbcParameters.{SbcParameters}
use Rattle.sbc_parameters.specs.Parameters.{channels, accepted}
use Rattle.sbc_parameters.specs.Sizes.{join_count, side_bits, block_bits, frame_length}
use Rattle.sbc_frame.specs.Fields.{Fields, join_at, factor_at, value_at, width_at, channel_width}
use Rattle.sbc_frame.specs.Layout.{flag_bits, channel_factor_bits, factor_bits, channel_value_bits, block_value_bits, value_bits, body_bits}
use Rattle.sbc_frame.specs.Layout.{filled, body, pack}
use Rattle.sbc_frame.specs.Layout.{factor_position, value_position}
use Rattle.sbc_frame.proofs.Widths.{Enough, block-width}
use Rattle.sbc_frame.proofs.Positions.{side-bits, frame-room}
use Rattle.sbc_frame.proofs.Written.{spare_bits, body-pack}

-- ---- parts of one length, end to end
length-each : (n : ℕ) (part : ℕ → List Bool) (k : ℕ) → ((i : ℕ) → length (part i) ≡ k) → length (collect n part) ≡ n * k
length-each n part k h = length-collect n part (λ _. k) h ∙ total-const n k

at_each : (n : ℕ) (part : ℕ → List Bool) (k : ℕ) → ((i : ℕ) → length (part i) ≡ k) → (i : ℕ) → i < n → (rest : List Bool)
    → At (collect n part ++ rest) (i * k) (part i)
at_each n part k h i lt rest =
    at_from (collect n part ++ rest) (collect n part ++ rest) (total i (λ _. k)) (i * k) (part i) refl (total-const i k)
    (at-collect n part (λ _. k) h i lt rest)

module _ (p : SbcParameters) (f : Fields) where
  abbrev frame_bits : List Bool
  frame_bits = bits_of_bytes (pack p f)

  abbrev widths : ℕ → ℕ → ℕ
  widths = width_at p f.factors

  abbrev rows : ℕ → ℕ
  rows = channel_width p f.factors

  -- ---- lengths
  length-flags : length (flag_bits p f) ≡ join_count p
  unfolding flag_bits
  length-flags = length-each (join_count p) (λ s. join_at f s ∷ []) 1 (λ _. refl) ∙ mul-one (join_count p)

  length-channel_factors : (c : ℕ) → length (channel_factor_bits p f c) ≡ 4 * p.subbands
  unfolding channel_factor_bits
  length-channel_factors c =
      length-each p.subbands (λ s. bits_of 4 (factor_at f c s)) 4 (λ s. length-bits_of 4 (factor_at f c s)) ∙ mul_comm p.subbands 4

  -- the join flags and scale factors
  pub length-side : length (flag_bits p f ++ factor_bits p f) ≡ side_bits p
  unfolding factor_bits
  length-side =
      length-append (flag_bits p f) (factor_bits p f)
      ∙ ap₂ ◌+◌ length-flags (length-each (channels p) (channel_factor_bits p f) (4 * p.subbands) length-channel_factors) ∙ side-bits p

  length-channel_values : (b c : ℕ) → length (channel_value_bits p f b c) ≡ rows c
  unfolding channel_value_bits channel_width
  length-channel_values b c =
      length-collect p.subbands (λ s. bits_of (widths c s) (value_at f b c s)) (widths c)
      (λ s. length-bits_of (widths c s) (value_at f b c s))

  length-block_values : (b : ℕ) → length (block_value_bits p f b) ≡ total (channels p) rows
  unfolding block_value_bits
  length-block_values b = length-collect (channels p) (channel_value_bits p f b) rows (length-channel_values b)

  module _ (a : accepted p ≡ true) (enough : Enough p f.factors) where
    -- the quantized values
    pub length-values : length (value_bits p f) ≡ p.blocks * block_bits p
    unfolding value_bits
    length-values =
        length-each p.blocks (block_value_bits p f) (block_bits p) (λ b. length-block_values b ∙ block-width p f.factors a enough)

    length_fields : length (body_bits p f) ≡ side_bits p + p.blocks * block_bits p
    unfolding body_bits
    length_fields =
        ap length (sym (append_assoc (flag_bits p f) (factor_bits p f) (value_bits p f)))
        ∙ length-append (flag_bits p f ++ factor_bits p f) (value_bits p f) ∙ ap₂ ◌+◌ length-side length-values

    -- the bits of the body are those of the fields, and spare ones
    pub bits-body : bits_of_bytes (body p f) ≡ body_bits p f ++ spare_bits p f
    unfolding body filled
    bits-body =
        let n : ℕ = frame_length p - 4 in
        bits-bytes n (body_bits p f ++ spare_bits p f)
        (length-append (body_bits p f) (spare_bits p f)
        ∙ omega (arith, length-replicate (8 * n - length (body_bits p f)) false, length_fields, frame-room p a))

    -- ---- the fields in the frame
    fields_at : At frame_bits 32 (body_bits p f)
    fields_at = (spare_bits p f, drop-bytes 4 (pack p f) ∙ ap bits_of_bytes (body-pack p f) ∙ bits-body)

    -- a join flag
    pub flag_at : (s : ℕ) → s < join_count p → At (bits_of_bytes (pack p f)) (32 + s) (join_at f s ∷ [])
    unfolding body_bits flag_bits
    flag_at s h =
        let behind : List Bool = factor_bits p f ++ value_bits p f in
        at-inside frame_bits 32 (body_bits p f) s (join_at f s ∷ []) fields_at
        (λ r. at_from (flag_bits p f ++ (behind ++ r)) (body_bits p f ++ r) (s * 1) s (join_at f s ∷ [])
        (sym (append_assoc (flag_bits p f) behind r)) (mul-one s)
        (at_each (join_count p) (λ s. join_at f s ∷ []) 1 (λ _. refl) s h (behind ++ r)))

    factors-at : (r : List Bool) → At (body_bits p f ++ r) (join_count p) (factor_bits p f)
    unfolding body_bits
    factors-at r =
        let behind : List Bool = factor_bits p f ++ value_bits p f in
        at_from (flag_bits p f ++ (behind ++ r)) (body_bits p f ++ r) (join_count p) (join_count p) (factor_bits p f)
        (sym (append_assoc (flag_bits p f) behind r)) refl
        (at-append (flag_bits p f) (behind ++ r) (join_count p) length-flags (factor_bits p f) (value_bits p f ++ r)
        (append_assoc (factor_bits p f) (value_bits p f) r))

    -- a scale factor
    pub factor-at : (c s : ℕ) → c < channels p → s < p.subbands
        → At (bits_of_bytes (pack p f)) (factor_position p c s) (bits_of 4 (factor_at f c s))
    unfolding factor_position factor_bits channel_factor_bits
    factor-at c s hc hs =
        let S : ℕ = p.subbands in
        let x : List Bool = bits_of 4 (factor_at f c s) in
        at-inside frame_bits 32 (body_bits p f) (join_count p + (c * (4 * S) + s * 4)) x fields_at
        (λ r. at-inside (body_bits p f ++ r) (join_count p) (factor_bits p f) (c * (4 * S) + s * 4) x (factors-at r)
        (λ r. at-inside (factor_bits p f ++ r) (c * (4 * S)) (channel_factor_bits p f c) (s * 4) x
        (at_each (channels p) (channel_factor_bits p f) (4 * S) length-channel_factors c hc r)
        (λ r. at_each S (λ s. bits_of 4 (factor_at f c s)) 4 (λ s. length-bits_of 4 (factor_at f c s)) s hs r)))

    values-at : (r : List Bool) → At (body_bits p f ++ r) (side_bits p) (value_bits p f)
    unfolding body_bits
    values-at r =
        let side : List Bool = flag_bits p f ++ factor_bits p f in
        at_from (side ++ (value_bits p f ++ r)) (body_bits p f ++ r) (side_bits p) (side_bits p) (value_bits p f)
        (sym (append_assoc side (value_bits p f) r)
        ∙ ap (λ (l : List Bool). l ++ r) (append_assoc (flag_bits p f) (factor_bits p f) (value_bits p f)))
        refl
        (at-append side (value_bits p f ++ r) (side_bits p) length-side (value_bits p f) r refl)

    -- a quantized value
    pub value-at : (b c s : ℕ) → b < p.blocks → c < channels p → s < p.subbands
        → At (bits_of_bytes (pack p f)) (value_position p f.factors b c s) (bits_of (width_at p f.factors c s) (value_at f b c s))
    unfolding value_position value_bits block_value_bits channel_value_bits
    value-at b c s hb hc hs =
        let x : List Bool = bits_of (widths c s) (value_at f b c s) in
        let block : ℕ = total (channels p) rows in
        let row : ℕ = total c rows in
        let before : ℕ = total s (widths c) in
        at-inside frame_bits 32 (body_bits p f) (side_bits p + (b * block + (row + before))) x fields_at
        (λ r. at-inside (body_bits p f ++ r) (side_bits p) (value_bits p f) (b * block + (row + before)) x (values-at r)
        (λ r. at-inside (value_bits p f ++ r) (b * block) (block_value_bits p f b) (row + before) x
        (at_each p.blocks (block_value_bits p f) block length-block_values b hb r)
        (λ r. at-inside (block_value_bits p f b ++ r) row (channel_value_bits p f b c) before x
        (at-collect (channels p) (channel_value_bits p f b) rows (length-channel_values b) c hc r)
        (λ r. at-collect p.subbands (λ s. bits_of (widths c s) (value_at f b c s)) (widths c)
        (λ s. length-bits_of (widths c s) (value_at f b c s)) s hs r))))
