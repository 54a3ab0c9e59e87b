-- `sbc_share::Group::find_level` meets its contract: each of its ends is one step of `descend`.
-- Assumes nothing.
use mathlib.Core.Path.{refl}
use native.Mathlib.Omega.{arith}
use borrow.Author.Tests.{lt-ltb, le-ltb, eq-eqb, ne_eqb}
use Rattle.sbc_share.proofs.Loops.{level_sum, level_few}
use Rattle.sbc_share.proofs.Levels.{descend-stop, descend-step}
use Rattle.sbc_share.proofs.Group.+find_level.Goals as goal

pub returns-then-level-floor : goal.returns-then-level-floor
returns-then-level-floor t c =
    let a = c.args in
    descend-stop a.self.now.needs.now a.self.now.bitpool a.floor a.level a.count c.if-level-floor.true

pub returns-then-reached-self : goal.returns-then-reached-self
returns-then-reached-self t c =
    let a = c.args in
    rw (
      descend-step a.self.now.needs.now a.self.now.bitpool a.floor a.level a.count (omega arith),
      level_sum a.level a.self.now.needs.now,
      ← c.level_bits.ensures,
      lt-ltb _ _ c.if-reached-self.true,
    )
    c.find_level.ensures

pub returns-then-reached-self-2 : goal.returns-then-reached-self-2
returns-then-reached-self-2 t c =
    let a = c.args in
    rw (
      descend-step a.self.now.needs.now a.self.now.bitpool a.floor a.level a.count (omega arith),
      level_sum a.level a.self.now.needs.now,
      ← c.level_bits.ensures,
      le-ltb _ _ c.if-reached-self.false,
      eq-eqb _ _ c.if-reached-self-2.true,
    ) refl

pub returns-else-reached-self-2 : goal.returns-else-reached-self-2
returns-else-reached-self-2 t c =
    let a = c.args in
    rw (
      descend-step a.self.now.needs.now a.self.now.bitpool a.floor a.level a.count (omega arith),
      level_sum a.level a.self.now.needs.now,
      ← c.level_bits.ensures,
      le-ltb _ _ c.if-reached-self.false,
      ne_eqb _ _ c.if-reached-self-2.false,
    ) refl

pub overflow_add-reached : goal.overflow_add-reached
overflow_add-reached t c = omega (arith, level_few c.args.level c.args.self.now.needs.now, c.level_bits.ensures, c.args.self.now.servable)
