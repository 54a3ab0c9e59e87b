-- What is read from a frame: it is well formed whatever the bytes are, and it is what was written where the frame was written.
-- Assumes nothing.
use Prim.Native.Nat.{ℕ, ◌+◌, ◌<◌}
use mathlib.Core.Path.{◌≡◌, ap, ◌∙◌}
use mathlib.Core.Bool.{true, false}
use mathlib.Core.List.{List, []}
use native.Mathlib.Omega.{arith}
use lib.Dec.{lit<}
use lib.ListN.{length, get_or}
use Rattle.laws.specs.Lists.{build}
use Rattle.laws.specs.Bits.{odd}
use Rattle.laws.proofs.Lists.{length-build, get_or-build, build-all, build-is}
use Rattle.bits.specs.Fields.{number_at}
use Rattle.bits.proofs.Windows.{number-at-lt, read_number, read-flag}
use Rattle.sbc_parameters.specs.declared.SbcParameters.{SbcParameters}
use Rattle.sbc_parameters.specs.Parameters.{channels, accepted}
use Rattle.sbc_parameters.specs.Sizes.{join_count}
use Rattle.sbc_frame.specs.Fields.{Fields, join_at, factor_at, value_at, width_at, WellFormed}
use Rattle.sbc_frame.specs.Layout.{pack, factor_position, value_position, read_join, read_factors, read_values, unpack}
use Rattle.sbc_frame.proofs.Widths.{Enough}
use Rattle.sbc_frame.proofs.Placed.{flag_at, factor-at, value-at}

-- ---- any frame
module _ (p : SbcParameters) (frame : List ℕ) where
  -- ---- the scale factors
  length-factors : (c : ℕ) → c < channels p → length (get_or (read_factors p frame) c []) ≡ p.subbands
  unfolding read_factors
  length-factors c hc =
      let row : ℕ → List ℕ = λ c. build p.subbands (λ s. number_at frame (factor_position p c s) 4) in
      ap length (get_or-build (channels p) row c [] hc) ∙ length-build p.subbands (λ s. number_at frame (factor_position p c s) 4)

  -- each channel has enough scale factors for the laws of widths and positions
  pub enough-factors : Enough p (read_factors p frame)
  enough-factors c hc = omega (arith, length-factors c hc)

  factors-fit : (c s : ℕ) → get_or (get_or (read_factors p frame) c []) s 0 < 16
  unfolding read_factors
  factors-fit c =
      build-all (λ (row : List ℕ). (s : ℕ) → get_or row s 0 < 16) (channels p)
      (λ c. build p.subbands (λ s. number_at frame (factor_position p c s) 4)) c []
      (λ c s. build-all (λ (v : ℕ). v < 16) p.subbands (λ s. number_at frame (factor_position p c s) 4) s 0
      (λ s. number-at-lt frame (factor_position p c s) 4) (lit< tt))
      (λ s. lit< tt)

  module _ (factors : List (List ℕ)) where
    abbrev number : ℕ → ℕ → ℕ → ℕ
    number b c s = number_at frame (value_position p factors b c s) (width_at p factors c s)

    abbrev row : ℕ → ℕ → List ℕ
    row b c = build p.subbands (number b c)

    value-rows : (b : ℕ) → b < p.blocks → get_or (read_values p frame factors) b [] ≡ build (channels p) (row b)
    unfolding read_values
    value-rows b hb = get_or-build p.blocks (λ b. build (channels p) (row b)) b [] hb

    value_row : (b c : ℕ) → b < p.blocks → c < channels p → get_or (get_or (read_values p frame factors) b []) c [] ≡ row b c
    value_row b c hb hc = ap (λ (l : List (List ℕ)). get_or l c []) (value-rows b hb) ∙ get_or-build (channels p) (row b) c [] hc

    pub read-value : (b c s : ℕ) → b < p.blocks → c < channels p → s < p.subbands
        → get_or (get_or (get_or (read_values p frame factors) b []) c []) s 0
        ≡ number_at frame (value_position p factors b c s) (width_at p factors c s)
    read-value b c s hb hc hs = ap (λ (l : List ℕ). get_or l s 0) (value_row b c hb hc) ∙ get_or-build p.subbands (number b c) s 0 hs

  -- what is read is well formed, whatever the bytes and their number
  pub unpack-fits : WellFormed p (unpack p frame)
  unfolding unpack read_join read_factors read_values
  unpack-fits =
      let factors : List (List ℕ) = read_factors p frame in
      record {
        joins = length-build (join_count p) (λ s. odd (number_at frame (32 + s) 1));
        factor_channels = length-build (channels p) (λ c. build p.subbands (λ s. number_at frame (factor_position p c s) 4));
        factor_subbands = length-factors;
        factor_fits = factors-fit;
        value_blocks = length-build p.blocks (λ b. build (channels p) (row factors b));
        value_channels = λ b hb. ap length (value-rows factors b hb) ∙ length-build (channels p) (row factors b);
        value_subbands = λ b c hb hc. ap length (value_row factors b c hb hc) ∙ length-build p.subbands (number factors b c);
        value_fits = λ b c s hb hc hs.
            rw (read-value factors b c s hb hc hs) (number-at-lt frame (value_position p factors b c s) (width_at p factors c s));
      }

-- ---- a frame that was written
-- well-formed fields have enough scale factors for the laws of widths and positions
pub enough-fields : (p : SbcParameters) (f : Fields) → WellFormed p f → Enough p f.factors
enough-fields p f w c hc = omega (arith, w.factor_subbands c hc)

module _ (p : SbcParameters) (f : Fields) (a : accepted p ≡ true) (w : WellFormed p f) where
  enough : Enough p f.factors
  enough = enough-fields p f w

  join-back : read_join p (pack p f) ≡ f.join
  unfolding read_join
  join-back =
      build-is (join_count p) (λ s. odd (number_at (pack p f) (32 + s) 1)) f.join false w.joins
      (λ s h. read-flag (pack p f) (32 + s) (join_at f s) (flag_at p f a enough s h))

  factors-back : read_factors p (pack p f) ≡ f.factors
  unfolding read_factors
  factors-back =
      build-is (channels p) _ f.factors [] w.factor_channels
      (λ c hc. build-is p.subbands _ (get_or f.factors c []) 0 (w.factor_subbands c hc)
      (λ s hs. read_number (pack p f) (factor_position p c s) 4 (factor_at f c s) (factor-at p f a enough c s hc hs) (w.factor_fits c s)))

  values-back : read_values p (pack p f) f.factors ≡ f.values
  unfolding read_values
  values-back =
      build-is p.blocks _ f.values [] w.value_blocks
      (λ b hb. build-is (channels p) _ (get_or f.values b []) [] (w.value_channels b hb)
      (λ c hc. build-is p.subbands _ (get_or (get_or f.values b []) c []) 0 (w.value_subbands b c hb hc)
      (λ s hs. read_number (pack p f) (value_position p f.factors b c s) (width_at p f.factors c s) (value_at f b c s)
      (value-at p f a enough b c s hb hc hs) (w.value_fits b c s hb hc hs))))

  -- fields that were written are read back
  pub unpack-pack : unpack p (pack p f) ≡ f
  unfolding unpack
  unpack-pack =
      let factors = factors-back in
      let values = ap (read_values p (pack p f)) factors ∙ values-back in
      λ i. record { join = join-back i; factors = factors i; values = values i }
