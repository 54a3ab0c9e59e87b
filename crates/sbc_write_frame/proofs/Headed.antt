-- A frame as it is written: the header, then the body behind the checksum, whose writer begins with no bits.
-- Assumes nothing.
use Prim.Native.Nat.{ℕ, ◌-◌, ◌≤◌}
use mathlib.Core.Path.{◌≡◌, refl, ◌∙◌}
use mathlib.Core.List.{List, [], ◌∷◌, ◌++◌}
use native.Mathlib.Omega.{arith}
use lib.ListN.{length, get_or, take, drop, length-append, length-drop}
use borrow.Rule.Slice.PartMut.{put_mid}
use Rattle.laws.specs.Bits.{bits_of, bits_of_bytes}
use Rattle.laws.proofs.Parts.{put-tail}
use Rattle.sbc_write.specs.Writing.{bits_behind}

-- ---- a frame as it is written: the bytes of the header first
abbrev pub headed : List ℕ → List ℕ → List ℕ
headed h frame = h ++ drop 3 frame

pub length-headed : (h frame : List ℕ) → length h ≡ 3 → 3 ≤ length frame → length (headed h frame) ≡ length frame
length-headed h frame e l = length-append h (drop 3 frame) ∙ omega (arith, length-drop 3 frame, e)

-- then the part behind the checksum, lent and come back
pub bodied : (h frame rest : List ℕ) → length h ≡ 3 → 4 ≤ length frame
    → put_mid 4 (length (headed h frame) - 4) (headed h frame) rest ≡ h ++ (get_or frame 3 0 ∷ rest)
bodied h frame rest e l =
    put-tail 4 (headed h frame) rest (omega (arith, length-headed h frame e (omega arith))) ∙ front h frame e l
  where
    front : (h frame : List ℕ) → length h ≡ 3 → 4 ≤ length frame → take 4 (headed h frame) ++ rest ≡ h ++ (get_or frame 3 0 ∷ rest)
    front (a ∷ b ∷ c ∷ []) (_ ∷ _ ∷ _ ∷ d ∷ frame) e l = refl
    front (a ∷ b ∷ c ∷ []) [] e l = absurd (omega arith)
    front (a ∷ b ∷ c ∷ []) (_ ∷ []) e l = absurd (omega arith)
    front (a ∷ b ∷ c ∷ []) (_ ∷ _ ∷ []) e l = absurd (omega arith)
    front (a ∷ b ∷ c ∷ []) (_ ∷ _ ∷ _ ∷ []) e l = absurd (omega arith)
    front [] frame e l = absurd (omega arith)
    front (a ∷ []) frame e l = absurd (omega arith)
    front (a ∷ b ∷ []) frame e l = absurd (omega arith)
    front (a ∷ b ∷ c ∷ d ∷ h) frame e l = absurd (omega arith)

-- ---- the bits of its body
-- a writer begins with none
pub no_bits : (bytes : List ℕ) → bits_behind bytes 0 0 0 ≡ []
unfolding bits_behind bits_of bits_of_bytes
no_bits bytes = refl
