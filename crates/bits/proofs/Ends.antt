-- What it means that bits are inside: they are 32 at most, and end where the bytes do or before, at a position that a usize holds.
-- Assumes nothing.
use Prim.Native.Nat.{ℕ, ◌+◌, ◌*◌, ◌^◌, ◌≤◌, ◌<◌}
use mathlib.Core.Path.{◌≡◌}
use mathlib.Core.Bool.{true}
use mathlib.Core.List.{List}
use native.Mathlib.Omega.{arith}
use lib.ListN.{length}
use Rattle.std.proofs.lemmas.Grind.{common_steps}
use Rattle.bits.specs.Fields.{bit_end, inside}

pub inside_true : (bytes : List ℕ) (position count : ℕ) → inside bytes position count ≡ true
    → (count ≤ 32) × (position + count ≤ 8 * length bytes) × (position + count < 2 ^ 64)
unfolding inside bit_end
inside_true bytes position count e = grind (arith, common_steps)
