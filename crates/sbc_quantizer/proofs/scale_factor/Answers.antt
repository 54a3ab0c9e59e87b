-- `sbc_quantizer::scale_factor` meets its contract: the maximum lies between the powers of two that its leading zeros name.
-- Assumes nothing.
use mathlib.Core.Path.{◌≡◌, sym}
use Prim.Native.Nat.{ℕ, suc, ◌+◌, ◌-◌, ◌^◌, ◌≤◌, ◌<◌}
use native.Mathlib.Nat.{lt_of_not-le}
use native.Mathlib.Omega.{arith}
use lib.Count.{count_leading_zeros, leading_top}
use lib.Pow.{pow_mono}
use Rattle.sbc_quantizer.specs.Quantizing.{scale_factor}
use Rattle.sbc_quantizer.proofs.Factors.{scale-factor-is}
use Rattle.sbc_quantizer.proofs.scale_factor.Goals as goal

-- the exponents of a power that m reaches and of one that it does not
between : (a b m : ℕ) → 2 ^ a ≤ m → m < 2 ^ b → a < b
between a b m h k = lt_of_not-le (λ (g : b ≤ a). omega (arith, pow_mono g))

-- the highest digit of a number between 2 ^ 13 and 2 ^ 27, by the leading zeros
record Digit (m : ℕ) : Type 0 where
  place : ℕ
  zeros : count_leading_zeros 32 m + suc place ≡ 32
  reached : 2 ^ place ≤ m
  above : m < 2 ^ suc place
  large : 13 ≤ place
  small : place < 27

digit : (m : ℕ) → 2 ^ 13 ≤ m → m < 2 ^ 27 → Digit m
digit m h k =
    let t = leading_top 32 m (omega arith) (omega arith) in
    let l = between 13 (suc t.0) m h t.3 in
    let s = between t.0 27 m t.2 k in
    record { place = t.0; zeros = t.1; reached = t.2; above = t.3; large = omega arith; small = s }

factor_is : (m : ℕ) → 2 ^ 13 ≤ m → m < 2 ^ 27 → scale_factor m ≡ 19 - count_leading_zeros 32 m
factor_is m h k =
    let d = digit m h k in
    let e : d.place ≡ 19 - count_leading_zeros 32 m + 12 = omega (arith, d.zeros, d.large) in
    let n : suc d.place ≡ 19 - count_leading_zeros 32 m + 13 = omega (arith, d.zeros, d.large) in
    scale-factor-is m (19 - count_leading_zeros 32 m) (omega (arith, d.small)) (λ _. rw (← e) d.reached) (λ _. rw (← n) d.above)

pub returns-then-maximum-ge134217728 : goal.returns-then-maximum-ge134217728
returns-then-maximum-ge134217728 c =
    sym (scale-factor-is c.args.maximum 15 (omega arith) (λ _. c.if-maximum-ge134217728.true) (λ l. absurd (omega arith)))

pub overflow_sub-result : goal.overflow_sub-result
overflow_sub-result c =
    let d = digit c.args.maximum c.if-maximum-ge8192.true c.if-maximum-ge134217728.false in
    omega (arith, d.zeros, d.large)

pub returns-then-maximum-ge8192 : goal.returns-then-maximum-ge8192
returns-then-maximum-ge8192 c = sym (factor_is c.args.maximum c.if-maximum-ge8192.true c.if-maximum-ge134217728.false)

pub returns : goal.returns
returns c = sym (scale-factor-is c.args.maximum 0 (omega arith) (λ l. absurd (omega arith)) (λ _. c.if-maximum-ge8192.false))
