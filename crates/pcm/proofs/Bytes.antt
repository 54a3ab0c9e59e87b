-- The library's words for a sample's two's complement and for its bytes are those of `Samples`.
-- Assumes nothing.
use Prim.Native.Nat.{ℕ, zero, suc, ◌+◌, ◌-◌, ◌*◌, ◌/◌, ◌%◌, ◌^◌, ◌<◌, ◌≤◌}
use mathlib.Core.Path.{◌≡◌, refl, ap, ◌∙◌}
use mathlib.Core.Bool.{Bool, true, false}
use mathlib.Core.List.{List, [], ◌∷◌}
use native.Mathlib.Omega.{arith}
use lib.Dec.{ltb}
use lib.ListN.{get_or, length}
use lib.IntN.{ℤ, pos, negsuc}
use mir.Syntax.{w16}
use mir.Val.{SFits, to_z, of_z, sel}
use mir.Facts.{to_z-of_z}
use Rattle.std.specs.Prelude.{if◌then◌else◌}
use Rattle.std.specs.Simd.{first_chunks}
use Rattle.pcm.specs.Samples.{signed_of, unsigned_of, sample_of, low_byte, high_byte}

signed : (n : ℕ) → to_z w16 n ≡ signed_of n
unfolding signed_of
signed n = go (ltb n 32768)
  where
    go : (t : Bool) → sel t (pos n) (negsuc (2 ^ 16 - suc n)) ≡ (if t then pos n else negsuc (65535 - n))
    go true = refl
    go false = ap negsuc (omega arith)

unsigned : (z : ℤ) → of_z w16 z ≡ unsigned_of z
unfolding unsigned_of
unsigned (pos n) = refl
unsigned (negsuc n) = omega arith

-- `i16::from_le_bytes` of two bytes
pub read_word : (low high : ℕ) → to_z w16 (low + high * 256) ≡ sample_of low high
unfolding sample_of
read_word low high =
    let f : low + high * 256 ≡ low + 256 * high = omega arith in
    ap (to_z w16) f ∙ signed (low + 256 * high)

-- `i16::to_le_bytes` of a sample
pub written_word : (z : ℤ) → let n : ℕ = of_z w16 z in (n % 256 ∷ n / 256 % 256 ∷ []) ≡ (low_byte z ∷ high_byte z ∷ [])
unfolding low_byte high_byte
written_word z = ap (λ (n : ℕ). n % 256 ∷ n / 256 % 256 ∷ []) (unsigned z)

-- the two bytes of pair i
pair-at : (n i : ℕ) (bytes pair : List ℕ) → i < n → 2 * n ≤ length bytes
    → get_or (first_chunks 2 n bytes) i pair ≡ (get_or bytes (2 * i) 0 ∷ get_or bytes (2 * i + 1) 0 ∷ [])
pair-at zero i bytes pair h fits = absurd (omega arith)
pair-at (suc n) i [] pair h fits = absurd (omega arith)
pair-at (suc n) i (a ∷ []) pair h fits = absurd (omega arith)
pair-at (suc n) zero (a ∷ b ∷ bytes) pair h fits = refl
pair-at (suc n) (suc i) (a ∷ b ∷ bytes) pair h fits =
    let two : 2 * suc i ≡ suc (suc (2 * i)) = omega arith in
    let odd : 2 * suc i + 1 ≡ suc (suc (2 * i + 1)) = omega arith in
    rw (odd, two) (pair-at n i bytes pair (omega arith) (omega arith))

-- the sample of pair i
pub read-sample : (n i : ℕ) (bytes pair : List ℕ) → i < n → 2 * n ≤ length bytes → pair ≡ get_or (first_chunks 2 n bytes) i []
    → sample_of (get_or pair 0 0) (get_or pair 1 0) ≡ sample_of (get_or bytes (2 * i) 0) (get_or bytes (2 * i + 1) 0)
read-sample n i bytes pair h fits e = ap (λ l. sample_of (get_or l 0 0) (get_or l 1 0)) (e ∙ pair-at n i bytes [] h fits)

-- the two bytes of a sample that the machine reads back from its bits
pub written-sample : (z : ℤ) (bytes : List ℕ) → SFits w16 z
    → let y : ℤ = to_z w16 (of_z w16 z) in bytes ≡ (low_byte y ∷ high_byte y ∷ [])
    → (get_or bytes 0 0 ∷ get_or bytes 1 0 ∷ []) ≡ (low_byte z ∷ high_byte z ∷ [])
written-sample z bytes f e =
    ap (λ l. get_or l 0 0 ∷ get_or l 1 0 ∷ []) e ∙ ap (λ (y : ℤ). low_byte y ∷ high_byte y ∷ []) (to_z-of_z f)
