-- `laws::sum_of` meets its contract. The invariant: the sum is that of the values passed.
-- Assumes nothing.
use Rattle.std.proofs.Common.{◌≡◌, ◌*◌, ◌≤◌, take}
use Rattle.std.specs.List.{sum_by}
use Rattle.laws.proofs.sum_of.Given as goal

abbrev pub invariant-loop-value : goal.invariant-loop-value
invariant-loop-value l = (l.sum ≡ sum_by (λ v. v) (take l.value-index l.row)) × (l.sum ≤ 255 * l.value-index)
