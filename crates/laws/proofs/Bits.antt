-- Laws of bits: lengths, a number and its bits, bytes and their bits, and parts of both.
-- Assumes nothing.
use Prim.Native.Nat.{ℕ, zero, suc, ◌+◌, ◌*◌, ◌/◌, ◌%◌, ◌^◌, ◌<◌}
use mathlib.Core.Path.{◌≡◌, refl, sym, ap, ap₂, ◌∙◌, subst}
use mathlib.Core.Bool.{Bool, true, false}
use mathlib.Core.List.{List, [], ◌∷◌, ◌++◌, append_assoc}
use native.Mathlib.Nat.{mod-eq_of_lt, mod-one, pow-succ', mul_assoc, mul-add-div_right, zero-add, add-mul, lt_of_lt_of_le}
use native.Mathlib.Numerals.{add-one, one-add}
use native.Mathlib.Omega.{arith}
use lib.Dec.{eqb, lit<}
use lib.ListN.{length, get_or, take, drop, length-append, length-take, length-drop, take-append-drop}
use lib.Seq.{drop-cons, take_at, drop_at, length-take-le, take-nil, drop-nil, take-append-add, drop-append-add}
use lib.Pow.{pow_pos, pow_mono, pow-add, mod-pow-add, shr-shr, high, low}
use lib.Arith.{digits_lt}
use Rattle.laws.specs.Bits.{odd, digit, bits_of, number_of, bits_of_bytes, bytes_of}

-- ---- one bit
two : (m : ℕ) → m < 2 → digit (eqb m 1) ≡ m
unfolding digit
two zero h = refl
two (suc zero) h = refl
two (suc (suc m)) h = absurd (omega arith)

digit-odd : (m : ℕ) → digit (odd m) ≡ m % 2
unfolding odd
digit-odd m = two (m % 2) (omega arith)

digit_lt : (b : Bool) → digit b < 2
unfolding digit
digit_lt true = omega arith
digit_lt false = omega arith

pub odd-digit : (b : Bool) → odd (digit b) ≡ b
unfolding odd digit
odd-digit true = refl
odd-digit false = refl

odd_low : (a k : ℕ) → odd (a * 2 + k) ≡ odd k
unfolding odd
odd_low a k = let e : (a * 2 + k) % 2 ≡ k % 2 = omega arith in ap (λ m. eqb m 1) e

-- ---- a number and its bits
pub length-bits_of : (n v : ℕ) → length (bits_of n v) ≡ n
unfolding bits_of
length-bits_of zero v = refl
length-bits_of (suc n) v = ap suc (length-bits_of n v)

pub number-bits : (n v : ℕ) → number_of (bits_of n v) ≡ v % 2 ^ n
unfolding bits_of number_of
number-bits zero v = sym (mod-one v)
number-bits (suc n) v = rw (digit-odd, length-bits_of n v, number-bits n v) (sym (rw one-add at (mod-pow-add v 1 n)))

pub number-of-bits : (n v : ℕ) → v < 2 ^ n → number_of (bits_of n v) ≡ v
number-of-bits n v h = number-bits n v ∙ mod-eq_of_lt h

pub number_lt : (bs : List Bool) → number_of bs < 2 ^ length bs
unfolding number_of
number_lt [] = omega arith
number_lt (b ∷ bs) = rw pow-succ' (digits_lt (digit_lt b) (number_lt bs))

-- what stands above the low n bits does not show in them
pub bits-low : (n a v : ℕ) → bits_of n (a * 2 ^ n + v) ≡ bits_of n v
unfolding bits_of
bits-low zero a v = refl
bits-low (suc n) a v =
    let e : a * 2 ^ suc n ≡ a * 2 * 2 ^ n = ap (λ m. a * m) (pow-succ' 2 n) ∙ sym (mul_assoc a 2 (2 ^ n)) in
    let o : odd ((a * 2 ^ suc n + v) / 2 ^ n) ≡ odd (v / 2 ^ n) = rw (e, mul-add-div_right (pow_pos n) (a * 2) v) (odd_low a (v / 2 ^ n)) in
    ap₂ {C = List Bool} (λ x l. x ∷ l) o (ap (λ m. bits_of n (m + v)) e ∙ bits-low n (a * 2) v)

pub bits-number : (bs : List Bool) → bits_of (length bs) (number_of bs) ≡ bs
unfolding bits_of number_of
bits-number [] = refl
bits-number (b ∷ bs) =
    ap₂ {C = List Bool} (λ x l. x ∷ l) (ap odd (high (digit b) (length bs) (number_lt bs)) ∙ odd-digit b)
    (bits-low (length bs) (digit b) (number_of bs) ∙ bits-number bs)

-- the high m and the low n of m + n bits
pub bits-append : (m n v : ℕ) → bits_of (m + n) v ≡ bits_of m (v / 2 ^ n) ++ bits_of n v
unfolding bits_of
bits-append zero n v = rw zero-add
bits-append (suc m) n v =
    let e : suc m + n ≡ suc (m + n) = omega arith in
    let f : n + m ≡ m + n = omega arith in
    let h : v / 2 ^ n / 2 ^ m ≡ v / 2 ^ (m + n) = shr-shr v n m ∙ ap (λ k. v / 2 ^ k) f in
    rw e (ap₂ {C = List Bool} (λ x l. odd x ∷ l) (sym h) (bits-append m n v))

pub number_append : (xs ys : List Bool) → number_of (xs ++ ys) ≡ number_of xs * 2 ^ length ys + number_of ys
unfolding number_of
number_append [] ys = omega arith
number_append (x ∷ xs) ys =
    let e : 2 ^ length (xs ++ ys) ≡ 2 ^ length xs * 2 ^ length ys = ap (λ (k : ℕ). 2 ^ k) (length-append xs ys) ∙ pow-add 2 (length xs) (length ys) in
    let m : digit x * (2 ^ length xs * 2 ^ length ys) ≡ digit x * 2 ^ length xs * 2 ^ length ys = sym (mul_assoc (digit x) (2 ^ length xs) (2 ^ length ys)) in
    let a : (digit x * 2 ^ length xs + number_of xs) * 2 ^ length ys ≡ digit x * 2 ^ length xs * 2 ^ length ys + number_of xs * 2 ^ length ys =
    add-mul (digit x * 2 ^ length xs) (number_of xs) (2 ^ length ys) in
    rw e (omega (arith, m, a, number_append xs ys))

-- the number of a part: n bits behind r bits of a list of r + n + s bits
pub number-part : (xs : List Bool) (r n s : ℕ) → length xs ≡ r + n + s → number_of (take n (drop r xs)) ≡ number_of xs / 2 ^ s % 2 ^ n
number-part xs r n s e =
    let ys : List Bool = drop r xs in
    let ly : length ys ≡ n + s = omega (arith, length-drop r xs) in
    let lz : length (drop n ys) ≡ s = omega (arith, length-drop n ys) in
    let lt : length (take n ys) ≡ n = length-take-le n ys (omega arith) in
    let a : number_of xs ≡ number_of (take r xs) * 2 ^ length ys + number_of ys =
    ap number_of (sym (take-append-drop r xs)) ∙ number_append (take r xs) ys in
    let b : number_of ys ≡ number_of (take n ys) * 2 ^ s + number_of (drop n ys) =
    ap number_of (sym (take-append-drop n ys)) ∙ number_append (take n ys) (drop n ys)
    ∙ ap (λ (k : ℕ). number_of (take n ys) * 2 ^ k + number_of (drop n ys)) lz in
    let hd : number_of (drop n ys) < 2 ^ s = subst (λ (k : ℕ). number_of (drop n ys) < 2 ^ k) lz (number_lt (drop n ys)) in
    let ht : number_of (take n ys) < 2 ^ n = subst (λ (k : ℕ). number_of (take n ys) < 2 ^ k) lt (number_lt (take n ys)) in
    let p : 2 ^ length ys ≡ 2 ^ n * 2 ^ s = ap (λ (k : ℕ). 2 ^ k) ly ∙ pow-add 2 n s in
    let q : number_of (take r xs) * 2 ^ length ys ≡ number_of (take r xs) * 2 ^ n * 2 ^ s =
    ap (λ (k : ℕ). number_of (take r xs) * k) p ∙ sym (mul_assoc (number_of (take r xs)) (2 ^ n) (2 ^ s)) in
    let w : number_of xs ≡ (number_of (take r xs) * 2 ^ n + number_of (take n ys)) * 2 ^ s + number_of (drop n ys) =
    omega (arith, a, b, q, add-mul (number_of (take r xs) * 2 ^ n) (number_of (take n ys)) (2 ^ s)) in
    sym (ap (λ (k : ℕ). k / 2 ^ s % 2 ^ n) w ∙ ap (λ (k : ℕ). k % 2 ^ n) (high (number_of (take r xs) * 2 ^ n + number_of (take n ys)) s hd)
    ∙ low (number_of (take r xs)) n ht)

-- ---- bytes and their bits
pub length-bits_of_bytes : (bytes : List ℕ) → length (bits_of_bytes bytes) ≡ 8 * length bytes
unfolding bits_of_bytes
length-bits_of_bytes [] = refl
length-bits_of_bytes (b ∷ bs) = length-append (bits_of 8 b) (bits_of_bytes bs) ∙ omega (arith, length-bits_of 8 b, length-bits_of_bytes bs)

pub length-bytes_of : (n : ℕ) (bits : List Bool) → length (bytes_of n bits) ≡ n
unfolding bytes_of
length-bytes_of zero bits = refl
length-bytes_of (suc n) bits = ap suc (length-bytes_of n (drop 8 bits))

pub bits-bytes : (n : ℕ) (bits : List Bool) → length bits ≡ 8 * n → bits_of_bytes (bytes_of n bits) ≡ bits
unfolding bits_of_bytes bytes_of
bits-bytes zero [] e = refl
bits-bytes zero (b ∷ bs) e = absurd (omega arith)
bits-bytes (suc n) bits e =
    let l : length (take 8 bits) ≡ 8 = length-take-le 8 bits (omega arith) in
    let h : bits_of 8 (number_of (take 8 bits)) ≡ take 8 bits = rw l at (bits-number (take 8 bits)) in
    let t : bits_of_bytes (bytes_of n (drop 8 bits)) ≡ drop 8 bits = bits-bytes n (drop 8 bits) (omega (arith, length-drop 8 bits)) in
    ap₂ {C = List Bool} (λ x y. x ++ y) h t ∙ take-append-drop 8 bits

-- bytes below 256 are had back from their bits
pub bytes_bits : (bytes : List ℕ) → ((i : ℕ) → get_or bytes i 0 < 256) → bytes_of (length bytes) (bits_of_bytes bytes) ≡ bytes
unfolding bits_of_bytes bytes_of
bytes_bits [] h = refl
bytes_bits (b ∷ bs) h =
    let t : take 8 (bits_of 8 b ++ bits_of_bytes bs) ≡ bits_of 8 b = take_at (bits_of 8 b) (bits_of_bytes bs) 8 (length-bits_of 8 b) in
    let d : drop 8 (bits_of 8 b ++ bits_of_bytes bs) ≡ bits_of_bytes bs = drop_at (bits_of 8 b) (bits_of_bytes bs) 8 (length-bits_of 8 b) in
    ap₂ {C = List ℕ} (λ x l. x ∷ l) (ap number_of t ∙ number-of-bits 8 b (h 0)) (ap (bytes_of (length bs)) d ∙ bytes_bits bs (λ i. h (suc i)))

pub bits-of-append : (xs ys : List ℕ) → bits_of_bytes (xs ++ ys) ≡ bits_of_bytes xs ++ bits_of_bytes ys
unfolding bits_of_bytes
bits-of-append [] ys = refl
bits-of-append (x ∷ xs) ys = ap (λ (l : List Bool). bits_of 8 x ++ l) (bits-of-append xs ys) ∙ sym (append_assoc (bits_of 8 x) (bits_of_bytes xs) (bits_of_bytes ys))

-- whole bytes taken and dropped
pub drop-bytes : (i : ℕ) (bytes : List ℕ) → drop (8 * i) (bits_of_bytes bytes) ≡ bits_of_bytes (drop i bytes)
unfolding bits_of_bytes
drop-bytes zero bytes = refl
drop-bytes (suc i) [] = drop-nil (8 * suc i)
drop-bytes (suc i) (b ∷ bs) =
    let e : 8 * suc i ≡ length (bits_of 8 b) + 8 * i = omega (arith, length-bits_of 8 b) in
    ap (λ (k : ℕ). drop k (bits_of 8 b ++ bits_of_bytes bs)) e ∙ drop-append-add (bits_of 8 b) (bits_of_bytes bs) (8 * i) ∙ drop-bytes i bs

pub take-bytes : (i : ℕ) (bytes : List ℕ) → take (8 * i) (bits_of_bytes bytes) ≡ bits_of_bytes (take i bytes)
unfolding bits_of_bytes
take-bytes zero bytes = refl
take-bytes (suc i) [] = take-nil (8 * suc i)
take-bytes (suc i) (b ∷ bs) =
    let e : 8 * suc i ≡ length (bits_of 8 b) + 8 * i = omega (arith, length-bits_of 8 b) in
    ap (λ (k : ℕ). take k (bits_of 8 b ++ bits_of_bytes bs)) e ∙ take-append-add (bits_of 8 b) (bits_of_bytes bs) (8 * i)
    ∙ ap (λ (l : List Bool). bits_of 8 b ++ l) (take-bytes i bs)

-- the bits from byte i on begin with that byte's
pub bits-drop : (bytes : List ℕ) (i : ℕ) → i < length bytes
    → bits_of_bytes (drop i bytes) ≡ bits_of 8 (get_or bytes i 0) ++ bits_of_bytes (drop (i + 1) bytes)
unfolding bits_of_bytes
bits-drop bytes i h =
    ap bits_of_bytes (drop-cons bytes i 0 h) ∙ ap (λ (k : ℕ). bits_of 8 (get_or bytes i 0) ++ bits_of_bytes (drop k bytes)) (sym (add-one i))

-- ---- numbers of at most n bits, and lists of bytes
pub number-take-lt : (n : ℕ) (bits : List Bool) → number_of (take n bits) < 2 ^ n
number-take-lt n bits =
    lt_of_lt_of_le (number_lt (take n bits)) (pow_mono {i = length (take n bits)} {j = n} (omega (arith, length-take n bits)))

-- each entry is a byte; what stands for the rest, 0, is one too
abbrev pub Bytes : List ℕ → Type 0
Bytes bytes = (i : ℕ) → get_or bytes i 0 < 256

-- one byte more in front
pub bytes-cons : (x : ℕ) (xs : List ℕ) → x < 256 → Bytes xs → Bytes (x ∷ xs)
bytes-cons x xs h hs zero = h
bytes-cons x xs h hs (suc i) = hs i

-- what is made of bits
pub bytes-of : (n : ℕ) (bits : List Bool) → Bytes (bytes_of n bits)
unfolding bytes_of
bytes-of zero bits = λ i. lit< tt
bytes-of (suc n) bits = bytes-cons (number_of (take 8 bits)) (bytes_of n (drop 8 bits)) (number-take-lt 8 bits) (bytes-of n (drop 8 bits))
