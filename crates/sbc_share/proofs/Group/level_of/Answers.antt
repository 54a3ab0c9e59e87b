-- `sbc_share::Group::level_of` meets its contract: the search begins at the greatest need, and its floor is the least need minus sixteen.
-- Assumes nothing.
use mathlib.Core.List.{List}
use Prim.Native.Nat.{ℕ, ◌≤◌, ◌<◌}
use lib.ListN.{length, get_or}
use Rattle.sbc_share.specs.Raised.{greatest_raised, least_raised}
use Rattle.sbc_share.proofs.Loops.{greatest_fold, least_fold}
use Rattle.sbc_share.proofs.Levels.{least-at-least, greatest-at-least, level-lowered}
use Rattle.sbc_share.proofs.Group.level_of.Goals as goal

low : (ns : List ℕ) → 0 < length ns → ((i : ℕ) → i < length ns → 16 ≤ get_or ns i 0) → 16 ≤ least_raised (greatest_raised 0 ns) ns
low ns some all = least-at-least 16 (greatest_raised 0 ns) ns (greatest-at-least 16 ns some all) all

pub overflow_sub-low : goal.overflow_sub-low
overflow_sub-low c = rw (c.least_need-low.ensures, c.greatest_need-top.ensures, ← greatest_fold 0 _, ← least_fold _ _) (low c.args.self.now.needs.now c.args.self.now.servable.0 c.args.self.now.servable.3)

pub returns : goal.returns
returns c =
    rw (
      level-lowered c.args.self.now.needs.now c.args.self.now.bitpool c.args.self.now.servable.0 (low c.args.self.now.needs.now c.args.self.now.servable.0 c.args.self.now.servable.3),
      least_fold,
      greatest_fold,
      ← c.greatest_need-top.ensures,
      ← c.least_need-low.ensures,
    ) c.find_level.ensures
