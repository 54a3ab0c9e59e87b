-- Y's sums, with their bound, which is P's, by one test that antt computes over the whole table; and the stepped index of their loop.
-- Assumes nothing.
use Prim.Native.Nat.{ℕ, ◌+◌, ◌*◌, ◌^◌, ◌≤◌, ◌<◌}
use mathlib.Core.Bool.{Bool}
use mathlib.Core.List.{List}
use native.Mathlib.Omega.{arith}
use lib.Dec.{lit≤, leb, leb→le}
use lib.ListN.{get_or}
use lib.IntN.{ℤ, pos, nat_abs}
use Rattle.laws.specs.Lists.{total}
use Rattle.laws.specs.Integers.{floor_div}
use Rattle.laws.proofs.Floor.{nat_abs-floor}
use Rattle.laws.proofs.Table.{at}
use Rattle.sbc_tables.specs.Tables.{prototype, prototype4, prototype8}
use Rattle.sbc_filterbank.specs.Subbands.{Bands, prototype_at}
use Rattle.sbc_filterbank.proofs.Bands.{for-bands}
use Rattle.sbc_filterbank.proofs.Bounds.{Summed}

-- ---- the entries of P that Y[k] takes
column : ℕ → ℕ → ℕ
column S k = total 5 (λ j. nat_abs (prototype_at S (k + 2 * S * j)))

column-small : ℕ → ℕ → Bool
column-small S k = leb (column S k) 400000000

pub column-bound : {S : ℕ} (k : ℕ) → Bands S → k < 2 * S → total 5 (λ j. nat_abs (prototype_at S (k + 2 * S * j))) ≤ 400000000
unfolding column column-small total prototype_at prototype prototype4 prototype8
column-bound k b =
    for-bands (λ s. k < 2 * s → column s k ≤ 400000000) b
    (λ h. leb→le (column 4 k) 400000000 (at 8 (column-small 4) tt k h))
    (λ h. leb→le (column 8 k) 400000000 (at 16 (column-small 8) tt k h))

-- ---- the sum of Y[k]
abbrev pub WindowSummed : ℕ → List ℤ → ℕ → ℕ → ℤ → Type 0
WindowSummed S X k = Summed (2 ^ 15) (λ j. prototype_at S (k + 2 * S * j)) (λ j. get_or X (k + 2 * S * j) (pos 0))

-- ---- the index of its term j
pub window-below : {S : ℕ} (k j : ℕ) → Bands S → k < 2 * S → j < 5 → k + 2 * S * j < 10 * S
window-below k j b =
    for-bands (λ s. k < 2 * s → j < 5 → k + 2 * s * j < 10 * s) b (λ h l. omega arith) (λ h l. omega arith)

-- ---- what the sums' bounds give: Y is within 400000000
pub window-small : (z : ℤ) → nat_abs z ≤ 400000000 * 2 ^ 15 → nat_abs (floor_div z (2 ^ 15)) ≤ 400000000
window-small z h = nat_abs-floor z (2 ^ 15) 400000000 (lit≤ tt) h
