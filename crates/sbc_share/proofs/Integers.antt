-- How far one integer stands above another, in terms of the naturals `up` and `down` of each, so that `omega` reads it.
-- Assumes nothing.
use mathlib.Core.Path.{◌≡◌, refl}
use Prim.Native.Nat.{ℕ, zero, suc, ◌+◌, ◌-◌}
use native.Mathlib.Omega.{arith}
use lib.IntN.{ℤ, pos, negsuc, sub_ℕ}
use Rattle.laws.proofs.Difference.{up, down, sub_cases}
use Rattle.sbc_share.specs.Share.{at_least0, above}

sub-at-least-0 : (a b : ℕ) → at_least0 (sub_ℕ a b) ≡ a - b
sub-at-least-0 a b = sub_cases (λ z. at_least0 z ≡ a - b) a b (λ l. omega arith) (λ l. refl)

pub above-is : (v n : ℤ) → above v n ≡ up n + down v - (up v + down n)
unfolding above up down
above-is (pos zero) (pos b) = omega arith
above-is (pos (suc a)) (pos b) = omega (arith, sub-at-least-0 b (suc a))
above-is (pos zero) (negsuc b) = omega (arith, sub-at-least-0 0 (suc b))
above-is (pos (suc a)) (negsuc b) = omega arith
above-is (negsuc a) (pos b) = omega arith
above-is (negsuc a) (negsuc b) = omega (arith, sub-at-least-0 (suc a) (suc b))
