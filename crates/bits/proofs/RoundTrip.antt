-- Laws of written bits: the bytes keep their number, the bits are read back, and all others are as they were, whatever the bytes are.
-- Assumes nothing.
use Prim.Native.Nat.{ℕ, ◌+◌, ◌*◌, ◌%◌, ◌^◌, ◌≤◌}
use mathlib.Core.Path.{◌≡◌, refl, ap, ◌∙◌}
use mathlib.Core.Logic.{◌⊎◌, inl, inr}
use mathlib.Core.Bool.{Bool, true, false}
use mathlib.Core.List.{List}
use native.Mathlib.Omega.{arith}
use lib.Dec.{eqb}
use lib.ListN.{length, take, drop}
use Rattle.laws.specs.Bits.{bits_of, number_of, bits_of_bytes}
use Rattle.laws.proofs.Bits.{length-bits_of, number-bits, length-bits_of_bytes, length-bytes_of, bits-bytes}
use Rattle.bits.specs.Fields.{inside, number_at, overwritten, write_at}
use Rattle.laws.proofs.Parts.{put, length-put, part-put, before-put, behind-put}

-- a write keeps the number of bytes
pub length-overwritten : (bytes : List ℕ) (position value count : ℕ) → length (overwritten bytes position value count) ≡ length bytes
unfolding overwritten
length-overwritten bytes position value count =
    length-bytes_of (length bytes) (put (bits_of_bytes bytes) position count (bits_of count value))

pub length-written : (bytes : List ℕ) (position value count : ℕ) → length (write_at bytes position value count).bytes ≡ length bytes
unfolding write_at
length-written bytes position value count = go (eqb count 0) refl (inside bytes position count) refl
  where
    go : (t : Bool) → eqb count 0 ≡ t → (u : Bool) → inside bytes position count ≡ u
        → length (write_at bytes position value count).bytes ≡ length bytes
    go true e u f = rw e
    go false e true f = rw (e, f) (length-overwritten bytes position value count)
    go false e false f = rw (e, f)

module _ (bytes : List ℕ) (position value count : ℕ) (room : position + count ≤ 8 * length bytes) where
  -- the bits after a write
  pub bits-overwritten : bits_of_bytes (overwritten bytes position value count)
      ≡ put (bits_of_bytes bytes) position count (bits_of count value)
  unfolding overwritten
  bits-overwritten =
      let r : position + count ≤ length (bits_of_bytes bytes) = omega (arith, length-bits_of_bytes bytes) in
      bits-bytes (length bytes) (put (bits_of_bytes bytes) position count (bits_of count value))
      (length-put (bits_of_bytes bytes) position count (bits_of count value) r (length-bits_of count value) ∙ length-bits_of_bytes bytes)

  -- what was written is read back, cut to its width
  pub number-back : number_at (overwritten bytes position value count) position count ≡ value % 2 ^ count
  unfolding number_at
  number-back =
      let r : position + count ≤ length (bits_of_bytes bytes) = omega (arith, length-bits_of_bytes bytes) in
      ap (λ (l : List Bool). number_of (take count (drop position l))) bits-overwritten
      ∙ ap number_of (part-put (bits_of_bytes bytes) position count (bits_of count value) r (length-bits_of count value))
      ∙ number-bits count value

  -- a number that ends where the written bits begin or before, or begins where they end or behind, is as it was
  pub number-apart : (at size : ℕ) → (at + size ≤ position) ⊎ (position + count ≤ at)
      → number_at (overwritten bytes position value count) at size ≡ number_at bytes at size
  unfolding number_at
  number-apart at size (inl h) =
      let r : position + count ≤ length (bits_of_bytes bytes) = omega (arith, length-bits_of_bytes bytes) in
      ap (λ (l : List Bool). number_of (take size (drop at l))) bits-overwritten
      ∙ ap number_of (before-put (bits_of_bytes bytes) position count (bits_of count value) r (length-bits_of count value) at size h)
  number-apart at size (inr h) =
      let r : position + count ≤ length (bits_of_bytes bytes) = omega (arith, length-bits_of_bytes bytes) in
      ap (λ (l : List Bool). number_of (take size (drop at l))) bits-overwritten
      ∙ ap (λ (l : List Bool). number_of (take size l))
      (behind-put (bits_of_bytes bytes) position count (bits_of count value) r (length-bits_of count value) at h)
