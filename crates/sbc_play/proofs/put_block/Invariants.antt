-- `sbc_play::put_block` meets its contract. The loop's invariant: the first j samples stand in the channel's places, and all other
-- places hold what they held.
-- Assumes nothing.
use Prim.Native.Nat.{◌*◌, ◌≤◌}
use mathlib.Core.Path.{◌≡◌}
use lib.ListN.{get_or}
use lib.IntN.{pos}
use Rattle.sbc_play.specs.Playing.{placed}
use Rattle.sbc_play.proofs.put_block.Given as goal

abbrev pub invariant-loop-j : goal.invariant-loop-j
invariant-loop-j g l =
    let S = g.B.Bank.SUBBANDS in
    (l.j ≤ S) × (l.output ≡ placed l.channel.count l.channel.index (l.block * S) l.j (λ k. get_or l.pcm k (pos 0)) l.initial.output)
