-- A table of reciprocals by the number of bits gives each of them.
-- Assumes nothing.
use mathlib.Core.Path.{◌≡◌, ap}
use mathlib.Core.List.{List}
use Prim.Native.Nat.{ℕ, suc, ◌-◌, ◌^◌, ◌/◌, ◌≤◌, ◌<◌}
use native.Mathlib.Omega.{arith}
use lib.ListN.{get_or}
use Rattle.laws.specs.Lists.{build}
use Rattle.laws.proofs.Lists.{get_or-build}
use Rattle.sbc_quantizer.specs.Quantizing.{levels}

pub table_at : (xs : List ℕ) (b : ℕ) → xs ≡ build 16 (λ n. 2 ^ 31 / levels (suc n)) → 0 < b → b ≤ 16
    → get_or xs (b - 1) 0 ≡ 2 ^ 31 / levels b
table_at xs b is some few =
    let back : suc (b - 1) ≡ b = omega arith in
    rw (is, get_or-build 16 (λ n. 2 ^ 31 / levels (suc n)) (b - 1) 0 (omega arith)) (ap (λ (n : ℕ). 2 ^ 31 / levels n) back)
