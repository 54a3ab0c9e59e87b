-- `sbc_share::Group::find_level` ends: the level's distance above the floor, the least need minus sixteen, falls.
-- Assumes nothing.
use Prim.Native.Nat.{◌-◌}
use Rattle.sbc_share.proofs.Group.+find_level.Given as goal

abbrev pub decreases-find_level : goal.decreases-find_level
decreases-find_level l = l.level - l.floor
