-- The arrays that a frame is read into: the values of a channel, and the samples of a channel.
-- Assumes nothing.
use Prim.Native.Nat.{ℕ, ◌+◌, ◌≤◌, ◌<◌}
use mathlib.Core.Path.{◌≡◌, sym, ap, ◌∙◌}
use mathlib.Core.List.{List, []}
use native.Mathlib.Omega.{arith}
use lib.Dec.{ltb}
use lib.ListN.{get_or}
use lib.IntN.{ℤ, pos}
use borrow.Author.Tests.{lt-ltb, le-ltb}
use Rattle.std.specs.Prelude.{if◌then◌else◌}
use Rattle.laws.specs.Lists.{build, total}
use Rattle.laws.proofs.Lists.{get_or-build, get_or-build-out}
use Rattle.sbc_parameters.specs.declared.SbcParameters.{SbcParameters}
use Rattle.sbc_parameters.specs.Parameters.{channels}
use Rattle.sbc_quantizer.specs.Quantizing.{reconstruct}
use Rattle.sbc_frame.specs.Fields.{Fields}
use Rattle.sbc_frame.specs.Encoding.{sample_at}
use Rattle.sbc_frame.specs.Decoding.{decoded_at, channel_blocks}
use Rattle.sbc_frame.specs.Arrays.{entry}
use Rattle.sbc_frame.proofs.Columns.{array_holds}
use Rattle.sbc_read.specs.Reading.{value_of, channel_values, channel_array}

-- ---- the values of a channel
module _ (bytes widths factors : List ℕ) (position block-bits blocks : ℕ) where
  -- the value of block b and subband s
  abbrev pub channel_value : ℕ → ℕ → ℤ
  channel_value b s = value_of bytes (position + total s (entry widths)) block-bits (entry widths s) (entry factors s) b

  -- 0 for a subband of 0 bits
  pub value_none : (b s : ℕ) → entry widths s ≡ 0 → channel_value b s ≡ pos 0
  unfolding value_of reconstruct
  value_none b s e = rw e

  -- all of them
  pub values_at : (b s : ℕ) → b < blocks → s < 8
      → channel_value b s ≡ sample_at (channel_values bytes widths factors position block-bits blocks) b s
  unfolding channel_values
  values_at b s hb hs =
      sym
      (ap (λ (l : List ℤ). get_or l s (pos 0)) (get_or-build blocks (λ b. build 8 (channel_value b)) b [] hb)
      ∙ get_or-build 8 (channel_value b) s (pos 0) hs)

-- ---- the samples of a frame's channel
module _ (p : SbcParameters) (f : Fields) where
  -- the samples by block and subband
  abbrev pub channel_rows : ℕ → List (List ℤ)
  channel_rows c = if ltb c (channels p) then channel_blocks p f c else []

  pub rows_there : (b c s : ℕ) → b < p.blocks → c < channels p → s < p.subbands → sample_at (channel_rows c) b s ≡ decoded_at p f b c s
  unfolding channel_blocks
  rows_there b c s hb hc hs =
      rw (lt-ltb c (channels p) hc)
      (ap (λ (l : List ℤ). get_or l s (pos 0)) (get_or-build p.blocks (λ b. build p.subbands (λ s. decoded_at p f b c s)) b [] hb)
      ∙ get_or-build p.subbands (λ s. decoded_at p f b c s) s (pos 0) hs)

  -- 0 where there is no such channel or no such subband
  pub rows_absent : (b c s : ℕ) → channels p ≤ c → sample_at (channel_rows c) b s ≡ pos 0
  rows_absent b c s hc = rw (le-ltb c (channels p) hc)

  pub rows_behind : (b c s : ℕ) → b < p.blocks → c < channels p → p.subbands ≤ s → sample_at (channel_rows c) b s ≡ pos 0
  unfolding channel_blocks
  rows_behind b c s hb hc hs =
      rw (lt-ltb c (channels p) hc)
      (ap (λ (l : List ℤ). get_or l s (pos 0)) (get_or-build p.blocks (λ b. build p.subbands (λ s. decoded_at p f b c s)) b [] hb)
      ∙ get_or-build-out p.subbands (λ s. decoded_at p f b c s) s (pos 0) hs)

  -- the array has what is decoded
  pub channel_holds : p.blocks ≤ 16 → p.subbands ≤ 8 → (b c s : ℕ) → b < p.blocks → c < channels p → s < p.subbands
      → sample_at (channel_array p f c) b s ≡ decoded_at p f b c s
  unfolding channel_array
  channel_holds hn hm b c s hb hc hs = array_holds p.blocks (channel_rows c) hn b s hb (omega arith) ∙ rows_there b c s hb hc hs
