-- `sbc_share::last_bit` meets its contract. The invariant: nothing is changed yet, and each one passed has 16.
-- Assumes nothing.
use mathlib.Core.Path.{◌≡◌}
use Prim.Native.Nat.{ℕ, ◌≤◌, ◌<◌}
use lib.ListN.{get_or}
use Rattle.sbc_share.proofs.last_bit.Given as goal

abbrev pub invariant-loop-first : goal.invariant-loop-first
invariant-loop-first l = (l.bits ≡ l.initial.bits) × ((j : ℕ) → j < l.first → 16 ≤ get_or l.initial.bits j 0)
