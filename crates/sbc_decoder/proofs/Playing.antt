-- What is written and left out where a frame is played: the definition's output.
-- Assumes nothing.
use Prim.Native.Nat.{ℕ, ◌*◌, ◌≤◌, min}
use mathlib.Core.Path.{◌≡◌, ap, ap₂, ◌∙◌}
use mathlib.Core.Bool.{true}
use mathlib.Core.List.{List, ◌++◌}
use native.Mathlib.Omega.{arith}
use lib.IntN.{ℤ}
use lib.ListN.{length, take, drop}
use lib.Seq.{take_at, drop-append-le}
use Rattle.sbc_parameters.specs.Parameters.{channels, accepted}
use Rattle.sbc_parameters.specs.Sizes.{samples_per_channel, frame_samples}
use Rattle.sbc_parameters.specs.declared.SbcParameters.{SbcParameters}
use Rattle.sbc_parameters.proofs.Accepted.{frame-samples-range}
use Rattle.sbc_frame.specs.Fields.{Fields}
use Rattle.sbc_frame.proofs.Coding.{length-decoded}
use Rattle.sbc_decoder.specs.Decode.{start_histories, dropped, next_output}
use Rattle.sbc_decoder.specs.declared.SbcDecoder.{SbcDecoder}
use Rattle.sbc_decoder.proofs.Taking.{gone, kept, gone-fits, samples, length-kept}

module _ (p : SbcParameters) (d : SbcDecoder) (f : Fields) (output : List ℤ) where
  -- the frame's samples in the first places, and those that are dropped left out
  pub left_out : let written = samples p d f output ++ drop (frame_samples p) output in
      take (kept p d) (drop (gone p d) written) ++ drop (kept p d) written ≡ next_output p d f output
  unfolding next_output
  left_out =
      let s = samples p d f output in
      let rest = drop (frame_samples p) output in
      let long : length s ≡ frame_samples p = length-decoded p (start_histories p d) f in
      ap₂ (λ a b. take (kept p d) a ++ b)
      (drop-append-le (gone p d) s rest (omega (arith, gone-fits p d, long)))
      (drop-append-le (kept p d) s rest (omega (arith, long)))
      ∙ ap (λ a. a ++ (drop (kept p d) s ++ rest)) (take_at (drop (gone p d) s) rest (kept p d) (length-kept p d f output))

-- what is dropped of all channels together: at most the frame's samples, of which there are at most 256
module _ (p : SbcParameters) (d : SbcDecoder) (drops : ℕ) (drops-is : drops ≡ min d.skip (samples_per_channel p)) where
  pub gone-is : drops * channels p ≡ gone p d
  unfolding dropped
  gone-is = ap (λ n. n * channels p) drops-is

  pub gone-le : drops * channels p ≤ frame_samples p
  gone-le = omega (arith, gone-is, gone-fits p d)

  pub gone-small : accepted p ≡ true → drops * channels p ≤ 256
  gone-small a = omega (arith, gone-le, (frame-samples-range p a).1)
