-- The register over lists of bits and bytes: one bit or byte more, one list behind another, and the checksum by its parts.
-- Assumes nothing.
use Prim.Native.Nat.{ℕ, zero, suc, ◌+◌, ◌*◌, ◌-◌, ◌/◌, ◌%◌, ◌^◌, ◌≤◌, ◌<◌, min}
use mathlib.Core.Path.{◌≡◌, refl, sym, ap, ap₂, ◌∙◌}
use mathlib.Core.Bool.{Bool, true, false, beq}
use mathlib.Core.List.{List, [], ◌∷◌, ◌++◌}
use native.Mathlib.Omega.{arith}
use lib.Bits.{bit_xor}
use lib.Dec.{leb, eqb}
use lib.ListN.{length, get_or, take, drop, drop_of_length-le}
use lib.Seq.{drop-drop, take-add, take-append-le, take-nil}
use borrow.Author.Tests.{leb-true, leb-false, eqb-true, eqb-false, eq-eqb, ne_eqb}
use Rattle.std.specs.Prelude.{if◌then◌else◌}
use Rattle.laws.specs.Bits.{odd, bits_of, bits_of_bytes}
use Rattle.laws.proofs.Bits.{length-bits_of, bits-drop, take-bytes, drop-bytes}
use Rattle.crc8.specs.Checksum.{crc_step, crc_bits, covered, checksum}

-- ---- one bit
-- the high bit of a register and the low bit of a number agree where the code's test says so
same_bit : (crc bit : ℕ) → crc < 256 → beq (leb 128 crc) (odd bit) ≡ eqb (crc / 128) (bit % 2)
unfolding odd
same_bit crc bit h = go (leb 128 crc) (eqb (bit % 2) 1) refl refl
  where
    go : (s t : Bool) → leb 128 crc ≡ s → eqb (bit % 2) 1 ≡ t → beq (leb 128 crc) (eqb (bit % 2) 1) ≡ eqb (crc / 128) (bit % 2)
    go true true p q = rw (p, q) (sym (eq-eqb (crc / 128) (bit % 2) (omega (arith, leb-true 128 crc p, eqb-true (bit % 2) 1 q))))
    go true false p q = rw (p, q) (sym (ne_eqb (crc / 128) (bit % 2) (λ e. omega (arith, leb-true 128 crc p, eqb-false (bit % 2) 1 q))))
    go false true p q = rw (p, q) (sym (ne_eqb (crc / 128) (bit % 2) (λ e. omega (arith, leb-false 128 crc p, eqb-true (bit % 2) 1 q))))
    go false false p q = rw (p, q) (sym (eq-eqb (crc / 128) (bit % 2) (omega (arith, leb-false 128 crc p, eqb-false (bit % 2) 1 q))))

-- a step with the test that the code makes
pub step_test : (crc bit : ℕ) → crc < 256
    → crc_step crc (odd bit) ≡ (if eqb (crc / 128) (bit % 2) then crc % 128 * 2 else bit_xor 0x1D (crc % 128 * 2))
unfolding crc_step
step_test crc bit h = ap (λ t. if t then crc % 128 * 2 else bit_xor 0x1D (crc % 128 * 2)) (same_bit crc bit h)

-- ---- lists of bits
-- one list behind another
pub crc-append : (crc : ℕ) (xs ys : List Bool) → crc_bits crc (xs ++ ys) ≡ crc_bits (crc_bits crc xs) ys
unfolding crc_bits
crc-append crc [] ys = refl
crc-append crc (x ∷ xs) ys = crc-append (crc_step crc x) xs ys

-- no bits leave the register as it is
crc-none : (crc : ℕ) (bits : List Bool) → bits ≡ [] → crc_bits crc bits ≡ crc
unfolding crc_bits
crc-none crc bits e = ap (crc_bits crc) e

-- ---- the bits of a byte
-- the first of the bits that are left
crc-bit : (crc byte k n : ℕ)
    → crc_bits crc (take (suc k) (bits_of (suc n) byte)) ≡ crc_bits (crc_step crc (odd (byte / 2 ^ n))) (take k (bits_of n byte))
unfolding crc_bits bits_of
crc-bit crc byte k n = refl

-- the bits that are left, from the i-th on
pub bits-next : (crc byte count i : ℕ) → i < count → i < 8
    → crc_bits crc (take (count - i) (bits_of (8 - i) byte))
    ≡ crc_bits (crc_step crc (odd (byte / 2 ^ (7 - i)))) (take (count - (i + 1)) (bits_of (8 - (i + 1)) byte))
bits-next crc byte count i h g =
    let k : count - i ≡ suc (count - (i + 1)) = omega arith in
    let n : 8 - i ≡ suc (7 - i) = omega arith in
    let m : 7 - i ≡ 8 - (i + 1) = omega arith in
    ap₂ (λ (x y : ℕ). crc_bits crc (take x (bits_of y byte))) k n ∙ crc-bit crc byte (count - (i + 1)) (7 - i)
    ∙ ap (λ (y : ℕ). crc_bits (crc_step crc (odd (byte / 2 ^ (7 - i)))) (take (count - (i + 1)) (bits_of y byte))) m

-- none are left where all that were asked for or all that the byte has are done
pub bits-end : (crc byte k n : ℕ) → min k n ≡ 0 → crc_bits crc (take k (bits_of n byte)) ≡ crc
unfolding crc_bits bits_of
bits-end crc byte zero n e = refl
bits-end crc byte (suc k) zero e = refl
bits-end crc byte (suc k) (suc n) e = absurd (omega arith)

-- ---- the bits of bytes
-- there are none past the end
bits_none : (bytes : List ℕ) (i : ℕ) → length bytes ≤ i → bits_of_bytes (drop i bytes) ≡ []
unfolding bits_of_bytes
bits_none bytes i h = ap bits_of_bytes (drop_of_length-le bytes h)

-- the bytes that are left, from the i-th on
pub bytes_next : (crc : ℕ) (bytes : List ℕ) (i : ℕ) → i < length bytes
    → crc_bits crc (bits_of_bytes (drop i bytes))
    ≡ crc_bits (crc_bits crc (bits_of 8 (get_or bytes i 0))) (bits_of_bytes (drop (i + 1) bytes))
bytes_next crc bytes i h =
    ap (crc_bits crc) (bits-drop bytes i h) ∙ crc-append crc (bits_of 8 (get_or bytes i 0)) (bits_of_bytes (drop (i + 1) bytes))

-- none are left at the end
pub bytes-end : (crc : ℕ) (bytes : List ℕ) (i : ℕ) → length bytes ≤ i → crc_bits crc (bits_of_bytes (drop i bytes)) ≡ crc
bytes-end crc bytes i h = crc-none crc (bits_of_bytes (drop i bytes)) (bits_none bytes i h)

-- ---- the checksum by its parts
-- the register after bytes 1 and 2 and the whole bytes of n side bits
abbrev pub whole_bytes : List ℕ → ℕ → ℕ
whole_bytes frame n = crc_bits (crc_bits 0x0F (bits_of_bytes (take 2 (drop 1 frame)))) (bits_of_bytes (take (n / 8) (drop 4 frame)))

-- the checksum is what the bits that remain make of it
pub checksum-parts : (frame : List ℕ) (n : ℕ)
    → checksum frame n ≡ crc_bits (whole_bytes frame n) (take (n % 8) (bits_of_bytes (drop (4 + n / 8) frame)))
unfolding checksum covered
checksum-parts frame n =
    let e : n ≡ 8 * (n / 8) + n % 8 = omega arith in
    let head : List Bool = bits_of_bytes (take 2 (drop 1 frame)) in
    let bits : List Bool = bits_of_bytes (drop 4 frame) in
    let full : List Bool = bits_of_bytes (take (n / 8) (drop 4 frame)) in
    let rest : List Bool = take (n % 8) (bits_of_bytes (drop (4 + n / 8) frame)) in
    let s : take n bits ≡ full ++ rest =
    ap (λ (k : ℕ). take k bits) e ∙ take-add (8 * (n / 8)) (n % 8) bits
    ∙ ap₂ {C = List Bool} (λ x y. x ++ take (n % 8) y) (take-bytes (n / 8) (drop 4 frame))
    (drop-bytes (n / 8) (drop 4 frame) ∙ ap bits_of_bytes (drop-drop (n / 8) 4 frame)) in
    crc-append 0x0F head (take n bits) ∙ ap (crc_bits (crc_bits 0x0F head)) s ∙ crc-append (crc_bits 0x0F head) full rest

-- the bits that remain are the first of one byte, where the frame has that byte
pub rest_some : (frame : List ℕ) (i r : ℕ) → i < length frame → r < 8
    → take r (bits_of_bytes (drop i frame)) ≡ take r (bits_of 8 (get_or frame i 0))
rest_some frame i r h g =
    ap (take r) (bits-drop frame i h)
    ∙ take-append-le r (bits_of 8 (get_or frame i 0)) (bits_of_bytes (drop (i + 1) frame))
    (omega (arith, length-bits_of 8 (get_or frame i 0)))

-- and change nothing where it has not
pub rest-none : (crc : ℕ) (frame : List ℕ) (i r : ℕ) → length frame ≤ i → crc_bits crc (take r (bits_of_bytes (drop i frame))) ≡ crc
rest-none crc frame i r h =
    crc-none crc (take r (bits_of_bytes (drop i frame))) (ap (take r) (bits_none frame i h) ∙ take-nil r)
