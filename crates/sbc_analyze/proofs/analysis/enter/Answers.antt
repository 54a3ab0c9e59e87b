-- `sbc_analyze::analysis::enter` meets its contract. The loop's invariant: the first k places hold the newest samples, and the others what
-- they held.
-- Assumes nothing.
use Prim.Native.Nat.{ℕ, ◌-◌, ◌^◌, ◌<◌}
use mathlib.Core.Path.{ap}
use lib.IntN.{pos}
use lib.ListN.{get_or}
use lib.Signed.{mag}
use native.Mathlib.Omega.{arith}
use Rattle.sbc_analyze.proofs.History.{none-entered, store_up}
use Rattle.sbc_analyze.proofs.analysis.enter.Goals as goal

pub loop-k-init : goal.loop-k-init
loop-k-init g c = (omega arith, none-entered c.args.history.now _)

pub loop-k-preserved : goal.loop-k-preserved
loop-k-preserved g c =
    let sample : mag (get_or c.args.input.now (c.SUBBANDS.result - 1 - c.loop-k.k) (pos 0)) < 2 ^ 15 = omega arith in (
      omega arith,
      store_up _ _ _ _ _ _ (record { sfits = sample }) c.loop-k.invariant.1
          (ap (λ (s : ℕ). get_or c.args.input.now (s - 1 - c.loop-k.k) (pos 0)) c.SUBBANDS.ensures),
    )
