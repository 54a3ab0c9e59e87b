-- Laws of a field that is read: through a window of whole bytes, and by the place where its bits stand.
-- Assumes nothing.
use Prim.Native.Nat.{ℕ, ◌+◌, ◌-◌, ◌*◌, ◌/◌, ◌%◌, ◌^◌, ◌≤◌, ◌<◌}
use mathlib.Core.Path.{◌≡◌, sym, ap, ◌∙◌, subst}
use mathlib.Core.Bool.{Bool}
use mathlib.Core.List.{List, [], ◌∷◌, ◌++◌, append-nil}
use native.Mathlib.Nat.{lt_of_lt_of_le, one-mul}
use native.Mathlib.Numerals.{add-one}
use native.Mathlib.Omega.{arith}
use lib.ListN.{length, get_or, take, drop, length-append, length-take, length-drop}
use lib.Seq.{length-take-le, take_at, take-suc, drop-drop, get_or-drop}
use lib.Pow.{pow_mono, shl_exact}
use Rattle.laws.specs.Bits.{odd, digit, bits_of, number_of, bits_of_bytes}
use Rattle.laws.proofs.Lists.{At}
use Rattle.laws.proofs.Bits.{odd-digit, length-bits_of, number_lt, number-of-bits, number_append, number-part, number-take-lt}
use Rattle.laws.proofs.Bits.{length-bits_of_bytes, bits-of-append, drop-bytes, take-bytes}
use Rattle.bits.specs.Fields.{number_at}
use Rattle.laws.proofs.Parts.{part-take}

-- a 1 that is shifted by less than the width of 64 bits
pub shifted-one : (n : ℕ) → n < 64 → 1 * 2 ^ n % 2 ^ 64 ≡ 2 ^ n
shifted-one n h = shl_exact 1 n 64 (omega arith) (omega arith) ∙ one-mul (2 ^ n)

-- the number of n bytes is below 256 ^ n
pub window-lt : (bytes : List ℕ) → number_of (bits_of_bytes bytes) < 2 ^ (8 * length bytes)
window-lt bytes = subst (λ (k : ℕ). number_of (bits_of_bytes bytes) < 2 ^ k) (length-bits_of_bytes bytes) (number_lt (bits_of_bytes bytes))

-- one byte more
pub one-more-byte : (xs : List ℕ) (x : ℕ) → x < 256 → number_of (bits_of_bytes (xs ++ x ∷ [])) ≡ number_of (bits_of_bytes xs) * 256 + x
unfolding bits_of_bytes
one-more-byte xs x h =
    let l : length (bits_of 8 x ++ []) ≡ 8 = length-append (bits_of 8 x) [] ∙ omega (arith, length-bits_of 8 x) in
    let n : number_of (bits_of 8 x ++ []) ≡ x = ap number_of (append-nil (bits_of 8 x)) ∙ number-of-bits 8 x h in
    ap number_of (bits-of-append xs (x ∷ [])) ∙ number_append (bits_of_bytes xs) (bits_of 8 x ++ []) ∙ rw (l, n)

-- four bytes at most make a number of 32 bits
pub window-small : (bytes : List ℕ) (from n : ℕ) → n ≤ 4 → number_of (bits_of_bytes (take n (drop from bytes))) < 2 ^ 32
window-small bytes from n h =
    let w : List ℕ = take n (drop from bytes) in
    let l : 8 * length w ≤ 32 = omega (arith, length-take n (drop from bytes)) in
    lt_of_lt_of_le (window-lt w) (pow_mono l)

-- a window of one byte more
pub window-next : (bytes : List ℕ) (from n : ℕ) → from + n < length bytes → get_or bytes (from + n) 0 < 256
    → number_of (bits_of_bytes (take (n + 1) (drop from bytes)))
    ≡ number_of (bits_of_bytes (take n (drop from bytes))) * 256 + get_or bytes (from + n) 0
window-next bytes from n h small =
    let rest : List ℕ = drop from bytes in
    let k : n < length rest = omega (arith, length-drop from bytes) in
    rw (add-one, take-suc rest n 0 k, get_or-drop from bytes n 0) (one-more-byte (take n rest) (get_or bytes (from + n) 0) small)

-- a field is a part of the number of any window of whole bytes that holds it
pub window-number : (bytes : List ℕ) (position count size : ℕ) → position % 8 + count ≤ 8 * size → position / 8 + size ≤ length bytes
    → number_at bytes position count
    ≡ number_of (bits_of_bytes (take size (drop (position / 8) bytes))) / 2 ^ (8 * size - position % 8 - count) % 2 ^ count
unfolding number_at
window-number bytes position count size h k =
    let first : ℕ = position / 8 in
    let bits : List Bool = bits_of_bytes bytes in
    let w : List ℕ = take size (drop first bytes) in
    let lw : length (bits_of_bytes w) ≡ position % 8 + count + (8 * size - position % 8 - count) =
    length-bits_of_bytes w ∙ omega (arith, length-take-le size (drop first bytes) (omega (arith, length-drop first bytes))) in
    let e : bits_of_bytes w ≡ take (8 * size) (drop (8 * first) bits) =
    sym (take-bytes size (drop first bytes)) ∙ ap (take (8 * size)) (sym (drop-bytes first bytes)) in
    let ld : 8 * size ≤ length (drop (8 * first) bits) = omega (arith, length-drop (8 * first) bits, length-bits_of_bytes bytes) in
    let p : 8 * first + position % 8 ≡ position = omega arith in
    let f : take count (drop (position % 8) (bits_of_bytes w)) ≡ take count (drop position bits) =
    ap (λ (l : List Bool). take count (drop (position % 8) l)) e ∙ part-take (drop (8 * first) bits) (8 * size) (position % 8) count h ld
    ∙ ap (take count) (drop-drop (position % 8) (8 * first) bits) ∙ ap (λ (i : ℕ). take count (drop i bits)) p in
    ap number_of (sym f) ∙ number-part (bits_of_bytes w) (position % 8) count (8 * size - position % 8 - count) lw

-- ---- a field fits its width, wherever it is read
pub number-at-lt : (bytes : List ℕ) (position count : ℕ) → number_at bytes position count < 2 ^ count
unfolding number_at
number-at-lt bytes position count = number-take-lt count (drop position (bits_of_bytes bytes))

-- ---- a field by its place
-- a number whose bits stand at a position is read there
pub read_number : (bytes : List ℕ) (position count v : ℕ) → At (bits_of_bytes bytes) position (bits_of count v) → v < 2 ^ count
    → number_at bytes position count ≡ v
unfolding number_at
read_number bytes position count v (r, e) h =
    rw (e, take_at (bits_of count v) r count (length-bits_of count v)) (number-of-bits count v h)

-- and so is a bit
pub read-flag : (bytes : List ℕ) (position : ℕ) (b : Bool) → At (bits_of_bytes bytes) position (b ∷ [])
    → odd (number_at bytes position 1) ≡ b
unfolding number_at number_of
read-flag bytes position b (r, e) =
    let o : digit b * 1 + 0 ≡ digit b = omega arith in
    rw e (ap odd o ∙ odd-digit b)
