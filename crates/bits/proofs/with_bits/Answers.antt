-- `bits::with_bits` meets its contract: the byte's bits with some of them changed are a number of three parts (`byte_put`),
-- and it is below 256.
-- Assumes nothing.
use Prim.Native.Nat.{ℕ, ◌+◌, ◌-◌, ◌*◌, ◌/◌, ◌%◌, ◌^◌, ◌≤◌, ◌<◌}
use mathlib.Core.Path.{◌≡◌, sym}
use native.Mathlib.Omega.{arith}
use Rattle.laws.specs.Bits.{bits_of, number_of}
use Rattle.laws.proofs.Parts.{put}
use Rattle.bits.proofs.Bytewise.{byte_put, byte-put-lt}
use Rattle.bits.proofs.Windows.{shifted-one}
use Rattle.bits.proofs.with_bits.Goals as goal

-- the sum of three parts is the number of the changed bits
made : (byte offset value n : ℕ) → offset + n ≤ 8 → byte < 256 → (b v : ℕ) → b ≡ byte → v ≡ value
    → let low : ℕ = 8 - offset - n in
    (b / 2 ^ (n + low) * (1 * 2 ^ n % 2 ^ 64) + v % (1 * 2 ^ n % 2 ^ 64)) * (1 * 2 ^ low % 2 ^ 64) + b % (1 * 2 ^ low % 2 ^ 64)
    ≡ number_of (put (bits_of 8 byte) offset n (bits_of n value))
made byte offset value n fits small b v p q =
    let low : ℕ = 8 - offset - n in
    rw (p, q, shifted-one n (omega arith), shifted-one low (omega arith)) (sym (byte_put byte offset value n low (omega arith) small))

pub overflow_cast-result : goal.overflow_cast-result
overflow_cast-result c =
    let a = c.args in
    omega (
      arith,
      made a.byte a.offset a.value a.n (omega arith) (omega arith) _ _ c.from-whole.ensures c.from.ensures,
      byte-put-lt a.byte a.offset a.value a.n (8 - a.offset - a.n) (omega arith) (omega arith),
    )

pub returns : goal.returns
returns c = let a = c.args in made a.byte a.offset a.value a.n (omega arith) (omega arith) _ _ c.from-whole.ensures c.from.ensures
