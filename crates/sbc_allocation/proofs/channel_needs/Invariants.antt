-- `sbc_allocation::channel_needs` meets its contract. The invariant: the needs written are the first of the channel's needs, 32 higher.
-- Assumes nothing.
use mathlib.Core.Path.{◌≡◌}
use mathlib.Core.List.{map}
use Prim.Native.Nat.{ℕ, ◌≤◌, ◌<◌}
use lib.ListN.{length, get_or, take}
use Rattle.laws.specs.Lists.{build}
use Rattle.sbc_need.specs.Need.{need}
use Rattle.sbc_share.specs.Raised.{lowered}
use Rattle.sbc_allocation.proofs.channel_needs.Given as goal

abbrev pub invariant-loop-i : goal.invariant-loop-i
invariant-loop-i l =
    (map lowered (take l.i l.raised) ≡ build l.i (λ j. need l.fn.parameters (get_or l.scale_factors j 0) j))
    × ((j : ℕ) → j < l.i → 16 ≤ get_or l.raised j 0) × (length l.raised ≡ 8)
