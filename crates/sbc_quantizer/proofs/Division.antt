-- A division by L = 2 ^ b - 1 as a multiplication and a shift: 2 ^ s is floor (2 ^ s / L) times L and leaves 2 ^ (s % b),
-- and m times what it leaves, divided by L, is m shifted right by b - s % b, if m is at most half of 2 ^ b.
-- Assumes nothing.
use mathlib.Core.Path.{◌≡◌, sym, ap, ap₂, ◌∙◌, subst}
use Prim.Native.Nat.{ℕ, zero, suc, ◌+◌, ◌*◌, ◌-◌, ◌/◌, ◌%◌, ◌^◌, ◌≤◌, ◌<◌}
use native.Mathlib.Nat.{add-zero, zero-add, zero-mul, mul-zero, suc-mul, mul-suc, mul_comm, mul_left_comm, mul_right_comm, mul_assoc}
use native.Mathlib.Nat.{add-mul, mul-add, mul-le-mul_left, le_of_mul-le-mul_right, div-add-mod', mod-lt, zero-div, div-zero, div-one}
use native.Mathlib.Nat.{mul-add-div_right, div-eq_of_lt, div-le_of_le-mul, div-div-eq-div-mul}
use native.Mathlib.Omega.{arith}
use lib.Pow.{pow_pos, pow-add, pow_mono, shl-shr}
use lib.Arith.{digits_div}

pub double : (b : ℕ) → 0 < b → 2 ^ b ≡ 2 * 2 ^ (b - 1)
double b h =
    let e : b ≡ b - 1 + 1 = omega arith in
    let d : 2 ^ b ≡ 2 ^ (b - 1) * 2 = ap (λ (x : ℕ). 2 ^ x) e ∙ pow-add 2 (b - 1) 1 in
    omega arith

-- ---- what 2 ^ s leaves over 2 ^ b - 1
record Leaves (x l r : ℕ) : Type 0 where
  quotient : ℕ
  is : x ≡ quotient * l + r

times-leaves : (x l r : ℕ) → Leaves x l r → Leaves ((l + 1) * x) l r
times-leaves x l r w =
    record {
      quotient = x + w.quotient;
      is = omega (arith, w.is, add-mul l 1 x, mul_comm l x, add-mul x w.quotient l);
    }

power-leaves : (b k r : ℕ) → Leaves (2 ^ (k * b + r)) (2 ^ b - 1) (2 ^ r)
power-leaves b zero r = record { quotient = 0; is = rw (zero-mul b, zero-add r) (omega (arith, zero-mul (2 ^ b - 1))) }
power-leaves b (suc k) r =
    let e : suc k * b + r ≡ b + (k * b + r) = omega (arith, suc-mul k b) in
    let o : 2 ^ b ≡ 2 ^ b - 1 + 1 = omega (arith, pow_pos b) in
    let p : 2 ^ (suc k * b + r) ≡ (2 ^ b - 1 + 1) * 2 ^ (k * b + r) =
    ap (λ (a : ℕ). 2 ^ a) e ∙ pow-add 2 b (k * b + r) ∙ ap (λ (a : ℕ). a * 2 ^ (k * b + r)) o in
    subst (λ (x : ℕ). Leaves x (2 ^ b - 1) (2 ^ r)) (sym p) (times-leaves (2 ^ (k * b + r)) (2 ^ b - 1) (2 ^ r) (power-leaves b k r))

-- ---- R * m / L is m / T, where R * T = L + 1
-- what is left over stays below L
small : (R T L h l : ℕ) → R * T ≡ L + 1 → 3 ≤ L → l < T → 2 * (h * T + l) ≤ L + 1 → h + R * l < L
small zero T L h l e g k d = absurd (omega (arith, zero-mul T))
small (suc zero) T L zero l e g k d = omega (arith, zero-mul T)
small (suc zero) T L (suc h) l e g k d = absurd (omega (arith, suc-mul h T))
small (suc (suc zero)) T L zero l e g k d = omega arith
small (suc (suc zero)) T L (suc zero) l e g k d = omega arith
small (suc (suc zero)) T L (suc (suc h)) l e g k d = absurd (omega (arith, suc-mul (suc h) T, suc-mul h T))
small (suc (suc (suc R))) T L h l e g k d =
    let p : 0 < T = omega arith in
    let q : 2 * h * T ≤ suc (suc (suc R)) * T = omega (arith, mul_assoc 2 h T) in
    omega (arith, le_of_mul-le-mul_right q p, mul-le-mul_left (suc (suc (suc R))) k, mul-suc (suc (suc (suc R))) l)

times-over : (R T L m : ℕ) → R * T ≡ L + 1 → 3 ≤ L → 2 * m ≤ L + 1 → 0 < T → R * m / L ≡ m / T
times-over R T L m e g d p =
    let s : m / T * T + m % T ≡ m = div-add-mod' m T in
    let h = m / T in
    let l = m % T in
    let n : R * m ≡ h * L + (h + R * l) =
    omega (arith, ap (λ (x : ℕ). R * x) s, mul-add R (h * T) l, mul_left_comm R h T, ap (λ (x : ℕ). h * x) e, mul-add h L 1) in
    let o : h + R * l < L = small R T L h l e g (mod-lt m p) (omega arith) in
    ap (λ (x : ℕ). x / L) n ∙ mul-add-div_right (omega arith) h (h + R * l) ∙ ap (λ (x : ℕ). h + x) (div-eq_of_lt o) ∙ add-zero h

-- ---- the division, by two bits or more
module _ (s b m : ℕ) (two : 2 ≤ b) where
  some : 0 < b
  some = omega arith

  half-large : 2 ≤ 2 ^ (b - 1)
  half-large = let h : 1 ≤ b - 1 = omega arith in pow_mono h

  rest : s % b < b
  rest = mod-lt s some

  leaves : Leaves (2 ^ s) (2 ^ b - 1) (2 ^ (s % b))
  leaves = subst (λ (x : ℕ). Leaves (2 ^ x) (2 ^ b - 1) (2 ^ (s % b))) (div-add-mod' s b) (power-leaves b (s / b) (s % b))

  quotient : 2 ^ s / (2 ^ b - 1) ≡ leaves.quotient
  quotient =
      let h : s % b ≤ b - 1 = omega (arith, rest) in
      let l : 2 ^ (s % b) < 2 ^ b - 1 = omega (arith, double b some, half-large, pow_mono h) in
      ap (λ (x : ℕ). x / (2 ^ b - 1)) leaves.is ∙ digits_div leaves.quotient l

  whole : 2 ^ (s % b) * 2 ^ (b - s % b) ≡ 2 ^ b - 1 + 1
  whole =
      let e : s % b + (b - s % b) ≡ b = omega (arith, rest) in
      let o : 2 ^ b ≡ 2 ^ b - 1 + 1 = omega (arith, pow_pos b) in
      sym (pow-add 2 (s % b) (b - s % b)) ∙ ap (λ (x : ℕ). 2 ^ x) e ∙ o

  product : 2 ^ s * m ≡ leaves.quotient * m * (2 ^ b - 1) + 2 ^ (s % b) * m
  product =
      ap (λ (x : ℕ). x * m) leaves.is ∙ add-mul (leaves.quotient * (2 ^ b - 1)) (2 ^ (s % b)) m
      ∙ ap (λ (x : ℕ). x + 2 ^ (s % b) * m) (mul_right_comm leaves.quotient (2 ^ b - 1) m)

  by_two : m ≤ 2 ^ (b - 1) → 2 ^ s / (2 ^ b - 1) * m + m / 2 ^ (b - s % b) ≡ 2 ^ s * m / (2 ^ b - 1)
  by_two bound =
      let d = double b some in
      let g = half-large in
      let p : 0 < 2 ^ b - 1 = omega arith in
      let t : 2 ^ (s % b) * m / (2 ^ b - 1) ≡ m / 2 ^ (b - s % b) =
      times-over (2 ^ (s % b)) (2 ^ (b - s % b)) (2 ^ b - 1) m whole (omega arith) (omega arith) (pow_pos (b - s % b)) in
      sym
      (ap (λ (x : ℕ). x / (2 ^ b - 1)) product ∙ mul-add-div_right p (leaves.quotient * m) (2 ^ (s % b) * m)
      ∙ ap₂ (λ a c. a * m + c) (sym quotient) t)

-- ---- the division, by any number of bits: by 0 bits m is 0, and so is all else
pub fast : (s b m : ℕ) → 2 * m ≤ 2 ^ b → 2 ^ s / (2 ^ b - 1) * m + m / 2 ^ (b - s % b) ≡ 2 ^ s * m / (2 ^ b - 1)
fast s zero m k = let z : m ≡ 0 = omega arith in simp (z, mul-zero, zero-div, div-zero)
fast s (suc zero) m k =
    let z : s % 1 ≡ 0 = omega arith in
    let y : m / 2 ≡ 0 = omega arith in
    simp (z, y, div-one, add-zero)
fast s (suc (suc n)) m k = let d = double (suc (suc n)) (omega arith) in by_two s (suc (suc n)) m (omega arith) (omega arith)

-- its size
pub fast-le : (s b m : ℕ) → 2 * m ≤ 2 ^ b → 2 ^ s * m / (2 ^ b - 1) ≤ 2 ^ s
fast-le s b m k =
    let g : m ≤ 2 ^ b - 1 = omega (arith, pow_pos b) in
    div-le_of_le-mul (2 ^ b - 1) (rw (mul_comm (2 ^ b - 1) (2 ^ s)) (mul-le-mul_left (2 ^ s) g))

-- ---- a power divided by L and then shifted: s bits of 31 are left of the quotient
pub shifted : (s L : ℕ) → s ≤ 31 → 2 ^ 31 / L / 2 ^ (31 - s) ≡ 2 ^ s / L
shifted s L h =
    let e : 31 ≡ s + (31 - s) = omega arith in
    let p : 2 ^ 31 ≡ 2 ^ s * 2 ^ (31 - s) = ap (λ (x : ℕ). 2 ^ x) e ∙ pow-add 2 s (31 - s) in
    div-div-eq-div-mul (2 ^ 31) L (2 ^ (31 - s)) ∙ ap (λ (x : ℕ). 2 ^ 31 / x) (mul_comm L (2 ^ (31 - s)))
    ∙ sym (div-div-eq-div-mul (2 ^ 31) (2 ^ (31 - s)) L)
    ∙ ap (λ (x : ℕ). x / L) (ap (λ (x : ℕ). x / 2 ^ (31 - s)) p ∙ shl-shr (2 ^ s) (31 - s))
