-- A frame's samples are its fields' samples: what is played of them is the frame decoded.
-- Assumes nothing.
use Prim.Native.Nat.{ℕ, ◌/◌, ◌%◌, ◌<◌}
use mathlib.Core.Path.{◌≡◌, refl, ap, ◌∙◌}
use mathlib.Core.Bool.{Bool, true, false}
use mathlib.Core.List.{List}
use native.Mathlib.Nat.{mod-lt}
use native.Mathlib.Omega.{arith}
use lib.Dec.{ltb}
use lib.ListN.{get_or}
use lib.IntN.{ℤ, pos}
use borrow.Author.Tests.{ltb-true}
use Rattle.std.specs.Prelude.{if◌then◌else◌}
use Rattle.laws.proofs.Lists.{build-ext}
use Rattle.sbc_parameters.specs.declared.SbcParameters.{SbcParameters}
use Rattle.sbc_parameters.specs.Parameters.{channels, accepted}
use Rattle.sbc_parameters.specs.Sizes.{frame_samples}
use Rattle.sbc_parameters.proofs.Accepted.{channels-range, ranges}
use Rattle.sbc_filterbank.specs.declared.synthesis.Synthesis.{Synthesis}
use Rattle.sbc_frame.specs.Channels.{interleave, no_synthesis, synthesize_blocks, synthesis_after}
use Rattle.sbc_frame.specs.Fields.{Fields}
use Rattle.sbc_frame.specs.Encoding.{sample_at}
use Rattle.sbc_frame.specs.Decoding.{channel_blocks, decode_fields, synthesis_histories}
use Rattle.sbc_frame.specs.Arrays.{rows_of}
use Rattle.sbc_frame.specs.declared.blocks.Blocks.{Blocks}
use Rattle.sbc_read.specs.Reading.{channel_array}
use Rattle.sbc_read.proofs.Arrays.{channel_holds}
use Rattle.sbc_play.specs.Playing.{blocks_in, channel_in, history_after, histories_after}

module _ (p : SbcParameters) (a : accepted p ≡ true) (f : Fields) (samples : List Blocks)
    (samples-are : (c : ℕ) → c < 2 → rows_of samples c ≡ channel_array p f c) (histories : List Synthesis) where
  blocks-decoded : (c : ℕ) → c < channels p → channel_in p samples c ≡ channel_blocks p f c
  unfolding blocks_in channel_blocks
  blocks-decoded c hc =
      build-ext p.blocks _ _
      (λ b hb. build-ext p.subbands _ _
      (λ s hs. ap (λ (xs : List (List ℤ)). sample_at xs b s) (samples-are c (omega (arith, (channels-range p).1)))
      ∙ channel_holds p f (ranges p a).blocks-high (ranges p a).subbands-high b c s hb hc hs))

  pub histories-decoded : histories_after p histories samples ≡ synthesis_histories p histories f
  unfolding histories_after synthesis_histories
  histories-decoded = build-ext 2 _ _ (λ c _. go c (ltb c (channels p)) refl)
    where
      go : (c : ℕ) (t : Bool) → ltb c (channels p) ≡ t
          → history_after p histories samples c
          ≡ (if ltb c (channels p) then synthesis_after p.subbands (get_or histories c no_synthesis) (channel_blocks p f c) else
          get_or histories c no_synthesis)
      go c true e =
          rw e (ap (synthesis_after p.subbands (get_or histories c no_synthesis)) (blocks-decoded c (ltb-true c (channels p) e)))
      go c false e = rw e

  pub pcm-decoded : interleave p (λ c. synthesize_blocks p.subbands (get_or histories c no_synthesis) (channel_in p samples c))
      ≡ decode_fields p histories f
  unfolding interleave decode_fields
  pcm-decoded =
      build-ext (frame_samples p) _ _
      (λ i _. ap
      (λ (bs : List (List ℤ)).
      get_or (synthesize_blocks p.subbands (get_or histories (i % channels p) no_synthesis) bs) (i / channels p) (pos 0))
      (blocks-decoded (i % channels p) (mod-lt i (channels-range p).0)))
