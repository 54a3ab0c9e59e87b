-- `sbc_analyze_frame::pcm_block` meets its contract. The loop's invariant: the places before j hold the channel's samples, and the others
-- 0.
-- Assumes nothing.
use Prim.Native.Nat.{ℕ, ◌+◌, ◌*◌}
use mathlib.Core.Path.{ap}
use mir.Syntax.{w16}
use native.Mathlib.Omega.{arith}
use lib.ListN.{get_or}
use lib.IntN.{pos}
use Rattle.laws.proofs.Arrays.{fill_none, stored}
use Rattle.sbc_filterbank.proofs.Bands.{bands-le}
use Rattle.sbc_analyze_frame.proofs.pcm_block.Goals as goal

pub loop-j-init : goal.loop-j-init
loop-j-init g c = (omega arith, fill_none 8 _)

pub loop-j-preserved : goal.loop-j-preserved
loop-j-preserved g c =
    let place = λ (s : ℕ). (c.args.block * s + c.loop-j.j) * c.args.channel.count + c.args.channel.index in (
      omega arith,
      stored w16 8 _ _ _ _ (record { sfits = omega arith }) (omega (arith, bands-le g.met.B.Bank.bands)) c.loop-j.invariant.1
          (ap (λ (s : ℕ). get_or c.args.input.now (place s) (pos 0)) c.SUBBANDS.ensures),
    )
