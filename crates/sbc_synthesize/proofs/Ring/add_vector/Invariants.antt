-- `sbc_synthesize::Ring::add_vector` meets its contract. The loop's invariant: the places before j hold the sums with one term more,
-- within their bound, and the others 0.
-- Assumes nothing.
use Prim.Native.Nat.{ℕ, ◌+◌, ◌*◌, ◌^◌, ◌≤◌, ◌<◌}
use mathlib.Core.Path.{◌≡◌}
use lib.IntN.{nat_abs}
use Rattle.laws.specs.Lists.{build}
use Rattle.laws.specs.Sums.{up_to}
use Rattle.sbc_synthesize.specs.Summing.{tap_sum}
use Rattle.sbc_synthesize.proofs.Samples.{summed}
use Rattle.sbc_synthesize.proofs.Ring.add_vector.Given as goal

abbrev pub invariant-loop-j : goal.invariant-loop-j
invariant-loop-j g l =
    (l.j ≤ g.B.Bank.SUBBANDS) × (l.more ≡ build 8 (up_to l.j (summed g.B.Bank.SUBBANDS l.self.values.now l.self.newest l.b)))
    × ((i : ℕ) → i < l.j → nat_abs (summed g.B.Bank.SUBBANDS l.self.values.now l.self.newest l.b i) ≤ tap_sum g.B.Bank.SUBBANDS
    (l.b + 1) i * 2 ^ 31)
