-- The ring holds the last ten vectors, newest first: a push of the ring is a push of the list. It is shown slot by slot: the slot that is
-- overwritten is the newest one, and no other slot meets it.
-- Assumes nothing.
use Prim.Native.Nat.{ℕ, zero, suc, ◌+◌, ◌*◌, ◌%◌, ◌≤◌, ◌<◌}
use mathlib.Core.Path.{◌≡◌, refl, sym, ap, ◌∙◌, subst}
use mathlib.Core.Bool.{Bool, true, false}
use mathlib.Core.List.{List, [], ◌∷◌}
use native.Mathlib.Omega.{arith}
use lib.Dec.{ltb}
use lib.ListN.{length, get_or, take, length-take}
use lib.Seq.{get_or-take}
use lib.IntN.{ℤ, pos}
use borrow.Author.Tests.{ltb-true, ltb-false}
use Rattle.laws.specs.Sums.{overwrite}
use Rattle.laws.proofs.Lists.{length-build, get_or-build, build-is, build-ext}
use Rattle.laws.proofs.Arrays.{overwrite-at, overwrite-below, overwrite-above}
use Rattle.sbc_filterbank.specs.Subbands.{Bands}
use Rattle.sbc_filterbank.specs.Synthesis.{modulated, pushed, vector_at, synthesis_outputs}
use Rattle.sbc_filterbank.specs.Ring.{slot_vector, ring, next_slot, ring_pushed}
use Rattle.sbc_filterbank.proofs.Bands.{for-bands}
use Rattle.sbc_filterbank.proofs.Lengths.{length-modulated}

-- ---- places of the ring
pub place-below : {S : ℕ} (slot x : ℕ) → Bands S → slot < 10 → x < 2 * S → 2 * S * slot + x < 160
place-below slot x b = for-bands (λ s. slot < 10 → x < 2 * s → 2 * s * slot + x < 160) b (λ h p. omega arith) (λ h p. omega arith)

pub slot-end : {S : ℕ} (n : ℕ) → Bands S → n < 10 → 2 * S * n + 2 * S ≤ 160
slot-end n b = for-bands (λ s. n < 10 → 2 * s * n + 2 * s ≤ 160) b (λ h. omega arith) (λ h. omega arith)

before : {S : ℕ} (t n r : ℕ) → Bands S → t < n → r < 2 * S → 2 * S * t + r < 2 * S * n
before t n r b = for-bands (λ s. t < n → r < 2 * s → 2 * s * t + r < 2 * s * n) b (λ h p. omega arith) (λ h p. omega arith)

after : {S : ℕ} (t n r : ℕ) → Bands S → n < t → 2 * S * n + 2 * S ≤ 2 * S * t + r
after t n r b = for-bands (λ s. n < t → 2 * s * n + 2 * s ≤ 2 * s * t + r) b (λ h. omega arith) (λ h. omega arith)

-- ---- V_b[r] in the ring
pub ring-at : (S : ℕ) (values : List ℤ) (newest b r : ℕ) → b < 10 → r < 2 * S
    → vector_at (ring S values newest) b r ≡ get_or values (2 * S * ((newest + b) % 10) + r) (pos 0)
unfolding vector_at ring slot_vector
ring-at S values newest b r h p =
    ap (λ (v : List ℤ). get_or v r (pos 0)) (get_or-build 10 (slot_vector S values newest) b [] h) ∙ get_or-build (2 * S) _ r (pos 0) p

-- ---- a push of the ring is a push of the list
module _ {S : ℕ} (v values : List ℤ) (newest : ℕ) (bands : Bands S) (l : length values ≡ 160) (m : length v ≡ 2 * S) where
  -- the slot of a vector that stays
  kept : (slot r : ℕ) → slot < 10 → (slot ≡ next_slot newest → ⊥) → r < 2 * S
      → get_or (ring_pushed S v values newest) (2 * S * slot + r) (pos 0) ≡ get_or values (2 * S * slot + r) (pos 0)
  unfolding ring_pushed
  kept slot r h ne p = go (ltb slot (next_slot newest)) refl
    where
      go : (t : Bool) → ltb slot (next_slot newest) ≡ t
          → get_or (overwrite (2 * S * next_slot newest) (2 * S) (λ k. get_or v k (pos 0)) values) (2 * S * slot + r) (pos 0)
          ≡ get_or values (2 * S * slot + r) (pos 0)
      go true e = overwrite-below (2 * S * next_slot newest) _ values (2 * S) _ (pos 0)
          (before slot (next_slot newest) r bands (ltb-true _ _ e) p)
      go false e =
          let q : next_slot newest < slot = omega (arith, ltb-false slot (next_slot newest) e) in
          overwrite-above (2 * S * next_slot newest) _ values (2 * S) _ (pos 0) (after slot (next_slot newest) r bands q)

  newest-is : slot_vector S (ring_pushed S v values newest) (next_slot newest) 0 ≡ v
  unfolding slot_vector ring_pushed
  newest-is =
      build-is (2 * S) _ v (pos 0) m
      (λ r p. ap
      (λ (k : ℕ). get_or (overwrite (2 * S * next_slot newest) (2 * S) (λ i. get_or v i (pos 0)) values) (2 * S * k + r) (pos 0))
      (omega arith)
      ∙ overwrite-at (2 * S * next_slot newest) _ values (2 * S) r (pos 0) p
      (subst (λ (n : ℕ). 2 * S * next_slot newest + 2 * S ≤ n) (sym l) (slot-end (next_slot newest) bands (omega arith))))

  older-is : (b : ℕ) → b < 9 → slot_vector S (ring_pushed S v values newest) (next_slot newest) (suc b) ≡ slot_vector S values newest b
  unfolding slot_vector
  older-is b h =
      build-ext (2 * S) _ _
      (λ r p. ap (λ (k : ℕ). get_or (ring_pushed S v values newest) (2 * S * k + r) (pos 0)) (omega arith)
      ∙ kept ((newest + b) % 10) r (omega arith) (λ e. omega arith) p)

  pub ring-push : ring S (ring_pushed S v values newest) (next_slot newest) ≡ pushed v (ring S values newest)
  unfolding ring pushed
  ring-push =
      build-is 10 _ (v ∷ take 9 (ring S values newest)) []
      (ap suc (length-take 9 (ring S values newest) ∙ omega (arith, length-build 10 (slot_vector S values newest)))) each
    where
      each : (b : ℕ) → b < 10
          → slot_vector S (ring_pushed S v values newest) (next_slot newest) b ≡ get_or (v ∷ take 9 (ring S values newest)) b []
      each zero h = newest-is
      each (suc b) h =
          older-is b (omega arith)
          ∙ sym (get_or-take 9 (ring S values newest) b [] (omega arith) ∙ get_or-build 10 (slot_vector S values newest) b [] (omega arith))

-- so the outputs after a block are those of the list with the block's vector pushed
pub outputs-push : {S : ℕ} (s values : List ℤ) (newest : ℕ) → Bands S → length values ≡ 160
    → synthesis_outputs S (ring S (ring_pushed S (modulated S s) values newest) (next_slot newest))
    ≡ synthesis_outputs S (pushed (modulated S s) (ring S values newest))
outputs-push {S} s values newest b l = ap (synthesis_outputs S) (ring-push (modulated S s) values newest b l (length-modulated S s))
