-- `sbc_share::Group::round_bits` meets its contract. The invariant: the bits written and the round of the needs to come
-- are the whole round, and zeros stand behind.
-- Assumes nothing.
use mathlib.Core.Path.{◌≡◌}
use mathlib.Core.List.{◌++◌}
use Prim.Native.Nat.{◌-◌}
use lib.ListN.{length, take, drop, replicate}
use Rattle.sbc_share.specs.Share.{round_bits}
use Rattle.sbc_share.specs.Raised.{excesses}
use Rattle.sbc_share.proofs.Group.round_bits.Given as goal

abbrev pub invariant-loop-i : goal.invariant-loop-i
invariant-loop-i l =
    (take l.i l.bits ++ round_bits (excesses l.level (drop l.i l.self.needs.now)) l.rest ≡ round_bits (excesses l.level l.self.needs.now) l.left)
    × (drop l.i l.bits ≡ replicate (16 - l.i) 0) × (length l.bits ≡ 16)
