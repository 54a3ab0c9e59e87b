-- `sbc_analyze_frame::pcm_block` meets its contract. The loop's invariant: the places before j hold the channel's samples, and the others
-- 0.
-- Assumes nothing.
use Prim.Native.Nat.{◌+◌, ◌*◌, ◌≤◌}
use mathlib.Core.Path.{◌≡◌}
use lib.ListN.{get_or}
use lib.IntN.{pos}
use Rattle.laws.specs.Lists.{build}
use Rattle.laws.specs.Sums.{up_to}
use Rattle.sbc_analyze_frame.proofs.pcm_block.Given as goal

abbrev pub invariant-loop-j : goal.invariant-loop-j
invariant-loop-j g l =
    (l.j ≤ g.B.Bank.SUBBANDS)
    × (l.pcm ≡ build 8 (up_to l.j (λ k. get_or l.input ((l.block * g.B.Bank.SUBBANDS + k) * l.channel.count + l.channel.index) (pos 0))))
