-- `sbc_decode_frame::decode_frame` meets its contract.
-- Assumes nothing.
use mathlib.Core.Path.{◌≡◌, ap, ◌∙◌}
use mathlib.Core.List.{List, ◌++◌}
use lib.IntN.{ℤ}
use lib.ListN.{get_or, drop}
use Rattle.sbc_parameters.specs.declared.SbcParameters.{SbcParameters}
use Rattle.sbc_parameters.specs.Sizes.{frame_samples}
use Rattle.sbc_frame.specs.Channels.{interleave, no_synthesis, synthesize_blocks}
use Rattle.sbc_frame.specs.Layout.{unpack}
use Rattle.sbc_play.specs.Playing.{channel_in, histories_after}
use Rattle.sbc_decode_frame.proofs.Decoded.{histories-decoded, pcm-decoded}
use Rattle.sbc_decode_frame.proofs.decode_frame.Goals as goal

pub returns : goal.returns
returns c =
    let a = c.args.frame.accepted in
    let f = unpack a.set c.args.frame.bytes.now in
    let old = c.args.histories.now in
    let output : List ℤ = c.args.output.now in
    let read = c.read_frame-samples.result in
    let are = c.read_frame-samples.ensures.channels in
    let same : read.accepted.set ≡ a.set = ap (λ x. x.set) c.read_frame-samples.ensures.accepted in
    record {
      histories =
          c.play_frame.ensures.histories
          ∙ ap (λ (p : SbcParameters). histories_after p old read.channels) same
          ∙ histories-decoded a.set a.is_accepted f read.channels are old;
      output =
          c.play_frame.ensures.output
          ∙ ap
          (λ (p : SbcParameters).
          interleave p (λ k. synthesize_blocks p.subbands (get_or old k no_synthesis) (channel_in p read.channels k)) ++ drop (frame_samples p) output) same
          ∙ ap (λ (pcm : List ℤ). pcm ++ drop (frame_samples a.set) output) (pcm-decoded a.set a.is_accepted f read.channels are old);
    }
