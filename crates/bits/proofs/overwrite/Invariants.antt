-- `bits::overwrite` meets its contract. The loop's invariant says what is left: writing the bits that are left, from the
-- byte's first or from `position` on, gives what writing them all at the start gives; and all are still bytes.
-- Assumes nothing.
use Prim.Native.Nat.{ℕ, ◌-◌, ◌*◌, ◌<◌, max, min}
use mathlib.Core.Path.{◌≡◌}
use lib.ListN.{get_or}
use Rattle.bits.specs.Fields.{overwritten}
use Rattle.bits.proofs.overwrite.Given as goal

-- the bit that is written next, when the bytes before byte i are done
abbrev pub next : ℕ → ℕ → ℕ → ℕ
next position end i = min end (max position (8 * i))

abbrev pub invariant-loop-i : goal.invariant-loop-i
invariant-loop-i l =
    ((k : ℕ) → get_or l.bytes k 0 < 256)
    × (overwritten l.bytes (next l.position l.end l.i) l.value (l.end - next l.position l.end l.i)
    ≡ overwritten l.initial.bytes l.position l.value l.count)
