-- Bits that are written one field after the other and flushed by bytes: a field taken up, a byte flushed, and the last byte.
-- Assumes nothing.
use Prim.Native.Nat.{ℕ, zero, suc, ◌+◌, ◌-◌, ◌*◌, ◌/◌, ◌%◌, ◌^◌, ◌≤◌, ◌<◌}
use mathlib.Core.Path.{◌≡◌, refl, sym, ap, ap₂, ◌∙◌, subst}
use mathlib.Core.Bool.{Bool, false}
use mathlib.Core.List.{List, [], ◌∷◌, ◌++◌, append_assoc, append-nil}
use native.Mathlib.Nat.{one-mul, zero-div}
use native.Mathlib.Numerals.{add-one}
use native.Mathlib.Omega.{arith}
use lib.ListN.{length, take, drop, set, replicate, length-append}
use lib.Seq.{length-take-le, take_all, take-suc-set, drop-drop}
use lib.Pow.{pow-add, split, high, shr_lt, shl_exact}
use lib.Arith.{digits_lt}
use Rattle.laws.specs.Bits.{odd, bits_of, bits_of_bytes, bytes_of}
use Rattle.laws.proofs.Bits.{length-bits_of, length-bits_of_bytes, bits-low, bits-append, bits-of-append, bytes_bits, Bytes}
use Rattle.sbc_frame.specs.Layout.{filled}
use Rattle.sbc_write.specs.declared.BodyWriter.{BodyWriter}
use Rattle.sbc_write.specs.Writing.{bits_behind, bits_in, Wrote}

-- ---- numbers
-- a number of n bits behind one of m bits has m + n
pub joined-lt : (m n v w : ℕ) → v < 2 ^ m → w < 2 ^ n → v * 2 ^ n + w < 2 ^ (m + n)
joined-lt m n v w h k = rw pow-add (digits_lt h k)

-- the eight high bits are a byte
pub byte-lt : (held bits : ℕ) → 8 ≤ held → bits < 2 ^ held → bits / 2 ^ (held - 8) < 256
byte-lt held bits h k =
    let e : held ≡ 8 + (held - 8) = omega arith in
    shr_lt 8 (held - 8) (subst (λ (n : ℕ). bits < 2 ^ n) e k)

-- 1 shifted within 64 bits is a power
pub unit : (n : ℕ) → n < 64 → (1 * 2 ^ n) % 2 ^ 64 ≡ 2 ^ n
unit n h = shl_exact 1 n 64 (omega arith) (omega arith) ∙ one-mul (2 ^ n)

-- ---- the bytes
-- a byte stored among bytes
pub bytes-set : (xs : List ℕ) (i x : ℕ) → x < 256 → Bytes xs → Bytes (set xs i x)
bytes-set [] i x h k j = k j
bytes-set (y ∷ xs) zero x h k zero = h
bytes-set (y ∷ xs) zero x h k (suc j) = k (suc j)
bytes-set (y ∷ xs) (suc i) x h k zero = k 0
bytes-set (y ∷ xs) (suc i) x h k (suc j) = bytes-set xs i x h (λ n. k (suc n)) j

-- what is behind n stays, and then what is behind m, further on
pub behind_more : (n m : ℕ) (xs ys zs : List ℕ) → n ≤ m → drop n ys ≡ drop n xs → drop m zs ≡ drop m ys → drop m zs ≡ drop m xs
behind_more n m xs ys zs le h k =
    let e : n + (m - n) ≡ m = omega arith in
    k ∙ subst (λ (i : ℕ). drop i ys ≡ drop i xs) e (sym (drop-drop (m - n) n ys) ∙ ap (drop (m - n)) h ∙ drop-drop (m - n) n xs)

-- ---- bits
-- the low n bits of a remainder
bits-mod : (n v : ℕ) → bits_of n (v % 2 ^ n) ≡ bits_of n v
bits-mod n v = sym (bits-low n (v / 2 ^ n) (v % 2 ^ n)) ∙ ap (bits_of n) (split v n)

-- a number of n bits behind another
bits-joined : (m n v w : ℕ) → w < 2 ^ n → bits_of (m + n) (v * 2 ^ n + w) ≡ bits_of m v ++ bits_of n w
bits-joined m n v w h = bits-append m n (v * 2 ^ n + w) ∙ ap₂ {C = List Bool} ◌++◌ (ap (bits_of m) (high v n h)) (bits-low n v w)

-- the bits of 0
bits-zero : (n : ℕ) → bits_of n 0 ≡ replicate n false
unfolding bits_of odd
bits-zero zero = refl
bits-zero (suc n) = rw zero-div (ap (λ (l : List Bool). false ∷ l) (bits-zero n))

-- one byte stored behind the first ones
bits-stored : (bytes : List ℕ) (at x : ℕ) → at < length bytes
    → bits_of_bytes (take (at + 1) (set bytes at x)) ≡ bits_of_bytes (take at bytes) ++ bits_of 8 x
unfolding bits_of_bytes
bits-stored bytes at x h =
    ap (λ (k : ℕ). bits_of_bytes (take k (set bytes at x))) (add-one at) ∙ ap bits_of_bytes (take-suc-set bytes at x h)
    ∙ bits-of-append (take at bytes) (x ∷ []) ∙ ap (λ (l : List Bool). bits_of_bytes (take at bytes) ++ l) (append-nil (bits_of 8 x))

-- ---- a writer
module _ (bytes : List ℕ) (at held bits : ℕ) where
  -- a field taken up
  pub taken-up : (value count : ℕ) → value < 2 ^ count
      → bits_behind bytes at (held + count) (bits * 2 ^ count + value)
      ≡ bits_behind bytes at held bits ++ bits_of count value
  unfolding bits_behind
  taken-up value count h =
      ap (λ (l : List Bool). bits_of_bytes (take at bytes) ++ l) (bits-joined held count bits value h)
      ∙ sym (append_assoc (bits_of_bytes (take at bytes)) (bits_of held bits) (bits_of count value))

  -- a byte flushed
  pub flushed : at < length bytes → 8 ≤ held
      → bits_behind (set bytes at (bits / 2 ^ (held - 8))) (at + 1) (held - 8) (bits % 2 ^ (held - 8))
      ≡ bits_behind bytes at held bits
  unfolding bits_behind
  flushed h k =
      let n : ℕ = held - 8 in
      let e : 8 + n ≡ held = omega arith in
      let before : List Bool = bits_of_bytes (take at bytes) in
      ap₂ {C = List Bool} ◌++◌ (bits-stored bytes at (bits / 2 ^ n) h) (bits-mod n bits)
      ∙ append_assoc before (bits_of 8 (bits / 2 ^ n)) (bits_of n bits)
      ∙ ap (λ (l : List Bool). before ++ l) (sym (bits-append 8 n bits) ∙ ap (λ (j : ℕ). bits_of j bits) e)

  -- how many bits are written
  length-in : at ≤ length bytes → length (bits_behind bytes at held bits) ≡ 8 * at + held
  unfolding bits_behind
  length-in h =
      length-append (bits_of_bytes (take at bytes)) (bits_of held bits)
      ∙ omega (arith, length-bits_of_bytes (take at bytes), length-take-le at bytes h, length-bits_of held bits)

-- bytes whose bits are some bits and zeros
filled-by : (bytes : List ℕ) (bits : List Bool) → Bytes bytes
    → bits_of_bytes bytes ≡ bits ++ replicate (8 * length bytes - length bits) false
    → bytes ≡ filled (length bytes) bits
unfolding filled
filled-by bytes bits h e = sym (bytes_bits bytes h) ∙ ap (bytes_of (length bytes)) e

module _ (bytes : List ℕ) (small : Bytes bytes) (at bits : ℕ) where
  -- with no bits held all bytes are written
  pub finished-whole : at ≡ length bytes → bytes ≡ filled (length bytes) (bits_behind bytes at 0 bits)
  unfolding bits_behind bits_of
  finished-whole e =
      let before : List Bool = bits_of_bytes (take at bytes) in
      let z : 8 * length bytes - length (before ++ []) ≡ 0 = omega (arith, length-in bytes at 0 bits (omega arith)) in
      filled-by bytes (before ++ []) small
      (sym (rw z (append-nil (before ++ []) ∙ append-nil before ∙ ap bits_of_bytes (take_all at bytes (omega arith)))))

-- with zeros behind the bits held the last byte is full
module _ (w r : BodyWriter) (small : Bytes r.bytes.now) where
  all-out : r.writer.held ≡ 0 → r.writer.at ≡ length r.bytes.now → bits_of_bytes r.bytes.now ≡ bits_in r
  unfolding bits_behind bits_of
  all-out none e =
      sym (append-nil (bits_of_bytes r.bytes.now))
      ∙ ap₂ {C = List Bool} ◌++◌ (ap bits_of_bytes (sym (take_all r.writer.at r.bytes.now (omega arith)))) (sym (rw none))

  pub finished-zeros : Wrote w r (bits_of (8 - w.writer.held) 0) → w.writer.at + 1 ≡ length w.bytes.now → w.writer.held ≤ 8
      → r.writer.held ≡ 0 → r.writer.at ≡ length r.bytes.now → r.bytes.now ≡ filled (length w.bytes.now) (bits_in w)
  finished-zeros put e h none full =
      let room : 8 - w.writer.held ≡ 8 * length r.bytes.now - length (bits_in w) =
      omega (arith, put.same_length, length-in w.bytes.now w.writer.at w.writer.held w.writer.bits (omega arith)) in
      filled-by r.bytes.now (bits_in w) small
      (all-out none full ∙ put.written
      ∙ ap (λ (l : List Bool). bits_in w ++ l) (bits-zero (8 - w.writer.held) ∙ ap (λ (n : ℕ). replicate n false) room))
      ∙ ap (λ (n : ℕ). filled n (bits_in w)) put.same_length
