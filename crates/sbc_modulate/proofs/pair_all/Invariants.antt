-- `sbc_modulate::pair_all` meets its contract. The loop's invariant: the places before n hold the sums and the differences, and the
-- others 0.
-- Assumes nothing.
use Prim.Native.Nat.{◌/◌, ◌≤◌}
use mathlib.Core.Path.{◌≡◌}
use lib.IntN.{pos}
use lib.ListN.{get_or}
use Rattle.laws.specs.Lists.{build}
use Rattle.laws.specs.Sums.{up_to}
use Rattle.sbc_modulate.specs.Fold.{pair_of}
use Rattle.sbc_modulate.proofs.pair_all.Given as goal

abbrev pub invariant-loop-n : goal.invariant-loop-n
invariant-loop-n g l =
    let S = g.B.Bank.SUBBANDS in
    (l.n ≤ S / 2) × (l.sums ≡ build 4 (up_to l.n (pair_of S 0 (λ k. get_or l.input k (pos 0)))))
    × (l.differences ≡ build 4 (up_to l.n (pair_of S 1 (λ k. get_or l.input k (pos 0)))))
