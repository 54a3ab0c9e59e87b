-- The fields of a frame behind its header and checksum. From document 01, "Parameters".
use Rattle.std.specs.Prelude.{ℕ, ◌<◌, ◌^◌, ◌≡◌, Bool, false, List, [], length, get_or}
use Rattle.laws.specs.Lists.{total}
use Rattle.sbc_parameters.specs.Parameters.{channels}
use Rattle.sbc_parameters.specs.Sizes.{join_count}
use Rattle.sbc_parameters.specs.declared.SbcParameters.{SbcParameters}
use Rattle.sbc_allocation.specs.Allocate.{allocate}

pub record Fields : Type 0 where
  -- one join flag a subband, in joint stereo only
  pub join : List Bool
  -- the scale factors, by channel and subband
  pub factors : List (List ℕ)
  -- the quantized values, by block, channel and subband
  pub values : List (List (List ℕ))

-- the join flag of a subband, which is not set where the frame has none
abbrev pub join_at : Fields → ℕ → Bool
join_at f s = get_or f.join s false

-- the scale factor of a channel and subband
abbrev pub factor_at : Fields → ℕ → ℕ → ℕ
factor_at f c s = get_or (get_or f.factors c []) s 0

-- the quantized value of a block, channel and subband
abbrev pub value_at : Fields → ℕ → ℕ → ℕ → ℕ
value_at f b c s = get_or (get_or (get_or f.values b []) c []) s 0

-- the bits of a quantized value, by channel and subband
unfoldable pub width_at : SbcParameters → List (List ℕ) → ℕ → ℕ → ℕ
width_at p factors c s = get_or (get_or (allocate p factors) c []) s 0

-- the bits of a channel's values in one block
unfoldable pub channel_width : SbcParameters → List (List ℕ) → ℕ → ℕ
channel_width p factors c = total p.subbands (width_at p factors c)

-- fields that a frame of these parameters can hold
pub record WellFormed (p : SbcParameters) (f : Fields) : Type 0 where
  pub joins : length f.join ≡ join_count p
  pub factor_channels : length f.factors ≡ channels p
  pub factor_subbands : (c : ℕ) → c < channels p → length (get_or f.factors c []) ≡ p.subbands
  pub factor_fits : (c s : ℕ) → factor_at f c s < 16
  pub value_blocks : length f.values ≡ p.blocks
  pub value_channels : (b : ℕ) → b < p.blocks → length (get_or f.values b []) ≡ channels p
  pub value_subbands : (b c : ℕ) → b < p.blocks → c < channels p → length (get_or (get_or f.values b []) c []) ≡ p.subbands
  pub value_fits : (b c s : ℕ) → b < p.blocks → c < channels p → s < p.subbands → value_at f b c s < 2 ^ width_at p f.factors c s
