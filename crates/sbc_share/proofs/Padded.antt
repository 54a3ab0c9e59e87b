-- What the code has in an array of 16: a group's bits with zeros behind them; and the shares from the level and the round that it found.
-- Assumes nothing.
use mathlib.Core.Path.{◌≡◌, refl, ap, ◌∙◌}
use mathlib.Core.List.{List, [], ◌∷◌, ◌++◌, map}
use Prim.Native.Nat.{ℕ, zero, suc, ◌-◌, ◌≤◌, ◌<◌}
use native.Mathlib.Omega.{arith}
use lib.ListN.{length, replicate}
use Rattle.sbc_share.specs.Share.{sum, level_of, base_bits, round_bits, last_bit, share_at, share}
use Rattle.sbc_share.specs.Raised.{lowered, excesses}
use Rattle.sbc_share.proofs.Levels.{heights-lowered}
use Rattle.sbc_share.proofs.Sharing.{length-round}

-- ---- zeros behind a group's bits
pub sum-padded : (xs : List ℕ) (n : ℕ) → sum (xs ++ replicate n 0) ≡ sum xs
unfolding sum
sum-padded [] zero = refl
sum-padded [] (suc n) = omega (arith, sum-padded [] n)
sum-padded (x ∷ xs) n = omega (arith, sum-padded xs n)

last-any : (left : ℕ) (xs : List ℕ) → 0 < left → last_bit left xs ≡ last_bit 1 xs
unfolding last_bit
last-any zero xs h = absurd (omega arith)
last-any (suc left) [] h = refl
last-any (suc left) (x ∷ xs) h = rw (last-any (suc left) xs h) refl

pub length-excesses : (level : ℕ) (ns : List ℕ) → length (excesses level ns) ≡ length ns
unfolding excesses
length-excesses level [] = refl
length-excesses level (n ∷ ns) = ap suc (length-excesses level ns)

-- ---- the shares, from the level that was found and the bits of the round
module _ (ns : List ℕ) (bitpool at : ℕ) (is : lowered at ≡ level_of (map lowered ns) bitpool) where
  abbrev pub rounded : List ℕ
  rounded = round_bits (excesses at ns) (bitpool - sum (map base_bits (excesses at ns)))

  share-at : share (map lowered ns) bitpool ≡ last_bit (bitpool - sum rounded) rounded
  unfolding share share_at
  share-at = rw (← is, heights-lowered at ns) refl

  pub with-last : sum rounded < bitpool → share (map lowered ns) bitpool ≡ last_bit 1 rounded
  with-last h = share-at ∙ last-any (bitpool - sum rounded) rounded (omega arith)

  pub without-last : bitpool ≤ sum rounded → share (map lowered ns) bitpool ≡ rounded
  unfolding last_bit
  without-last h =
      let none : bitpool - sum rounded ≡ 0 = omega arith in
      share-at ∙ ap (λ (left : ℕ). last_bit left rounded) none

  pub length-rounded : length rounded ≡ length ns
  length-rounded = length-round (excesses at ns) (bitpool - sum (map base_bits (excesses at ns))) ∙ length-excesses at ns
