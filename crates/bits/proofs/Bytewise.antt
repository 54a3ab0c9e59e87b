-- Laws of a field written byte by byte: one byte with some bits changed, the bits of bytes with one byte changed, and one step.
-- Assumes nothing.
use Prim.Native.Nat.{ℕ, zero, suc, ◌+◌, ◌-◌, ◌*◌, ◌/◌, ◌%◌, ◌^◌, ◌≤◌, ◌<◌}
use mathlib.Core.Path.{◌≡◌, sym, ap, ap₂, ◌∙◌, subst}
use mathlib.Core.Bool.{Bool}
use mathlib.Core.List.{List, [], ◌∷◌, ◌++◌, append_assoc}
use native.Mathlib.Nat.{div-one}
use native.Mathlib.Omega.{arith}
use lib.ListN.{length, get_or, take, drop, set, length-drop, length-set}
use lib.Seq.{length-take-le, take_all, set_split, split_at}
use lib.Pow.{shr_mod}
use Rattle.laws.specs.Bits.{bits_of, number_of, bits_of_bytes, bytes_of}
use Rattle.laws.proofs.Bits.{length-bits_of, number-bits, number-of-bits, number_lt, bits-number, bits-append, number_append, number-part}
use Rattle.laws.proofs.Bits.{length-bits_of_bytes, bits-of-append, bytes_bits}
use Rattle.bits.specs.Fields.{overwritten}
use Rattle.laws.proofs.Parts.{put, put-put, put-inside, put-none, length-put}

-- ---- one byte
module _ (byte offset value n low : ℕ) (e : offset + n + low ≡ 8) (small : byte < 256) where
  -- the byte's bits with n of them changed, as a number
  pub byte_put : number_of (put (bits_of 8 byte) offset n (bits_of n value))
      ≡ (byte / 2 ^ (n + low) * 2 ^ n + value % 2 ^ n) * 2 ^ low + byte % 2 ^ low
  byte_put =
      let bits : List Bool = bits_of 8 byte in
      let number : number_of bits ≡ byte = number-of-bits 8 byte small in
      let w : 8 ≡ offset + (n + low) = omega arith in
      let a : number_of (take offset bits) ≡ byte / 2 ^ (n + low) =
      number-part bits 0 offset (n + low) (length-bits_of 8 byte ∙ omega arith) ∙ ap (λ (k : ℕ). k / 2 ^ (n + low) % 2 ^ offset) number
      ∙ shr_mod offset (n + low) (subst (λ (k : ℕ). byte < 2 ^ k) w small) in
      let ld : length (drop (offset + n) bits) ≡ low = length-drop (offset + n) bits ∙ omega (arith, length-bits_of 8 byte) in
      let d : number_of (drop (offset + n) bits) ≡ byte % 2 ^ low =
      ap number_of (sym (take_all low (drop (offset + n) bits) (omega arith)))
      ∙ number-part bits (offset + n) low 0 (length-bits_of 8 byte ∙ omega arith)
      ∙ ap (λ (k : ℕ). k % 2 ^ low) (div-one (number_of bits) ∙ number) in
      ap number_of (sym (append_assoc (take offset bits) (bits_of n value) (drop (offset + n) bits)))
      ∙ number_append (take offset bits ++ bits_of n value) (drop (offset + n) bits)
      ∙ rw (number_append, ld, d, length-bits_of, a, number-bits)

  -- it is a byte
  pub byte-put-lt : number_of (put (bits_of 8 byte) offset n (bits_of n value)) < 256
  byte-put-lt =
      let ys : List Bool = put (bits_of 8 byte) offset n (bits_of n value) in
      let l : length ys ≡ 8 =
      length-put (bits_of 8 byte) offset n (bits_of n value) (omega (arith, length-bits_of 8 byte)) (length-bits_of n value)
      ∙ length-bits_of 8 byte in
      subst (λ (k : ℕ). number_of ys < 2 ^ k) l (number_lt ys)

-- ---- one byte of many
-- the bits of bytes with n bits of one byte changed
pub bits-set : (bytes : List ℕ) (i offset n : ℕ) (xs : List Bool) → i < length bytes → offset + n ≤ 8 → length xs ≡ n
    → bits_of_bytes (set bytes i (number_of (put (bits_of 8 (get_or bytes i 0)) offset n xs)))
    ≡ put (bits_of_bytes bytes) (8 * i + offset) n xs
unfolding bits_of_bytes
bits-set bytes i offset n xs h room long =
    let x : ℕ = get_or bytes i 0 in
    let ys : List Bool = put (bits_of 8 x) offset n xs in
    let before : List Bool = bits_of_bytes (take i bytes) in
    let behind : List Bool = bits_of_bytes (drop (suc i) bytes) in
    let r : offset + n ≤ length (bits_of 8 x) = omega (arith, length-bits_of 8 x) in
    let ly : length ys ≡ 8 = length-put (bits_of 8 x) offset n xs r long ∙ length-bits_of 8 x in
    let back : bits_of 8 (number_of ys) ≡ ys = rw ly at (bits-number ys) in
    let lb : length before ≡ 8 * i = length-bits_of_bytes (take i bytes) ∙ ap (λ (k : ℕ). 8 * k) (length-take-le i bytes (omega arith)) in
    let old : bits_of_bytes bytes ≡ before ++ (bits_of 8 x ++ behind) =
    ap bits_of_bytes (split_at bytes i 0 h) ∙ bits-of-append (take i bytes) (x ∷ drop (suc i) bytes) in
    let new : bits_of_bytes (set bytes i (number_of ys)) ≡ before ++ (bits_of 8 (number_of ys) ++ behind) =
    ap bits_of_bytes (set_split bytes i (number_of ys) h) ∙ bits-of-append (take i bytes) (number_of ys ∷ drop (suc i) bytes) in
    new ∙ ap (λ (l : List Bool). before ++ (l ++ behind)) back ∙ sym (put-inside before (bits_of 8 x) behind (8 * i) offset n xs lb r)
    ∙ ap (λ (l : List Bool). put l (8 * i + offset) n xs) (sym old)

-- bytes with one byte changed are bytes
pub set-small : (bytes : List ℕ) (i x : ℕ) → x < 256 → ((k : ℕ) → get_or bytes k 0 < 256) → (k : ℕ) → get_or (set bytes i x) k 0 < 256
set-small [] i x hx h k = h k
set-small (b ∷ bs) zero x hx h zero = hx
set-small (b ∷ bs) zero x hx h (suc k) = h (suc k)
set-small (b ∷ bs) (suc i) x hx h zero = h 0
set-small (b ∷ bs) (suc i) x hx h (suc k) = set-small bs i x hx (λ j. h (suc j)) k

-- ---- the writer's turns
-- the n high ones of the `left` bits go into one byte, and then the others behind them: as if all were written at once
pub overwritten-step : (bytes : List ℕ) (at value left n x : ℕ)
    → at + left ≤ 8 * length bytes → at / 8 < length bytes → n ≤ left → at % 8 + n ≤ 8
    → x ≡ number_of (put (bits_of 8 (get_or bytes (at / 8) 0)) (at % 8) n (bits_of n (value / 2 ^ (left - n))))
    → overwritten (set bytes (at / 8) x) (at + n) value (left - n) ≡ overwritten bytes at value left
unfolding overwritten
overwritten-step bytes at value left n x room there most fits is =
    let i : ℕ = at / 8 in
    let bits : List Bool = bits_of_bytes bytes in
    let high : List Bool = bits_of n (value / 2 ^ (left - n)) in
    let rest : List Bool = bits_of (left - n) value in
    let p : 8 * i + at % 8 ≡ at = omega arith in
    let l : n + (left - n) ≡ left = omega arith in
    let lh : length high ≡ n = length-bits_of n (value / 2 ^ (left - n)) in
    let s : bits_of_bytes (set bytes i x) ≡ put bits at n high =
    ap (λ (y : ℕ). bits_of_bytes (set bytes i y)) is ∙ bits-set bytes i (at % 8) n high (omega arith) fits lh
    ∙ ap (λ (k : ℕ). put bits k n high) p in
    let t : put (bits_of_bytes (set bytes i x)) (at + n) (left - n) rest ≡ put bits at left (bits_of left value) =
    ap (λ (k : List Bool). put k (at + n) (left - n) rest) s
    ∙ put-put bits at n high (omega (arith, length-bits_of_bytes bytes)) lh (left - n) rest
    ∙ ap (put bits at (n + (left - n))) (sym (bits-append n (left - n) value)) ∙ ap (λ (k : ℕ). put bits at k (bits_of k value)) l in
    ap₂ {C = List ℕ} bytes_of (length-set bytes i x) t

-- with no bits left nothing changes, of bytes
pub overwritten-none : (bytes : List ℕ) (at value : ℕ) → ((k : ℕ) → get_or bytes k 0 < 256) → overwritten bytes at value 0 ≡ bytes
unfolding overwritten bits_of
overwritten-none bytes at value h = ap (bytes_of (length bytes)) (put-none (bits_of_bytes bytes) at) ∙ bytes_bits bytes h
