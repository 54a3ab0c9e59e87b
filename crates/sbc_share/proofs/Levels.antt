-- The level search over needs and levels that stand 32 higher: one step of it, and where it begins. Lowering keeps distances and order.
-- Assumes nothing.
use mathlib.Core.Path.{◌≡◌, refl, sym, ap, ◌∙◌}
use mathlib.Core.List.{List, [], ◌∷◌, map}
use Prim.Native.Nat.{ℕ, zero, suc, ◌+◌, ◌-◌, ◌≤◌, ◌<◌, min, max}
use native.Mathlib.Omega.{arith}
use lib.Dec.{ltb, eqb}
use lib.ListN.{length, get_or}
use lib.IntN.{pos, pred_ℤ, neg_ℤ, ◌-ℤ◌, pred_ℤ-+ℤ}
use lib.Signed.{le_z}
use Rattle.std.specs.Prelude.{if◌then◌else◌}
use Rattle.sbc_share.specs.Share.{above, heights, level_bits, descend, greatest_need, least_need, level_of}
use Rattle.sbc_share.specs.Raised.{lowered, greatest_raised, least_raised, excesses}
use Rattle.laws.proofs.Cases.{by-test}
use Rattle.laws.proofs.Difference.{up, down, le_yes, le-no, sub_is}
use Rattle.sbc_share.proofs.Integers.{above-is}

lowered_is : (n : ℕ) → up (lowered n) + 32 ≡ n + down (lowered n)
unfolding lowered up down
lowered_is n = omega (arith, sub_is (pos n) 32)

above-lowered : (v n : ℕ) → above (lowered v) (lowered n) ≡ n - v
above-lowered v n = omega (arith, above-is (lowered v) (lowered n), lowered_is v, lowered_is n)

pub heights-lowered : (v : ℕ) (ns : List ℕ) → heights (lowered v) (map lowered ns) ≡ excesses v ns
unfolding heights excesses
heights-lowered v [] = refl
heights-lowered v (n ∷ ns) = rw (above-lowered v n, heights-lowered v ns) refl

lowered-pred : (v : ℕ) → 0 < v → pred_ℤ (lowered v) ≡ lowered (v - 1)
unfolding lowered
lowered-pred zero h = absurd (omega arith)
lowered-pred (suc v) h =
    let back : v ≡ suc v - 1 = omega arith in
    sym (pred_ℤ-+ℤ (pos (suc v)) (neg_ℤ (pos 32))) ∙ ap (λ (k : ℕ). pos k -ℤ pos 32) back

-- ---- one step of the search

module _ (ns : List ℕ) (bitpool floor v count : ℕ) where
  pub descend-stop : v ≤ floor → lowered v ≡ descend (v - floor) (map lowered ns) bitpool (lowered v) count
  unfolding descend
  descend-stop h =
      let none : v - floor ≡ 0 = omega arith in
      rw none refl

  abbrev reached : ℕ
  reached = count + level_bits (excesses v ns)

  pub descend-step : floor < v → descend (v - floor) (map lowered ns) bitpool (lowered v) count ≡
      (if ltb reached bitpool then descend (v - 1 - floor) (map lowered ns) bitpool (lowered (v - 1)) reached else
      if eqb reached bitpool then lowered (v - 1) else
      lowered v)
  unfolding descend
  descend-step h =
      let more : v - floor ≡ suc (v - 1 - floor) = omega arith in
      rw (more, heights-lowered v ns, lowered-pred v (omega arith)) refl

-- ---- where it begins

max-lowered : (m g : ℕ) → (if le_z (lowered g) (lowered m) then lowered m else lowered g) ≡ lowered (max m g)
max-lowered m g =
    by-test (λ z. z ≡ lowered (max m g)) (le_z (lowered g) (lowered m)) (lowered m) (lowered g)
    (λ e. let le = le_yes (lowered g) (lowered m) e in ap lowered (omega (arith, lowered_is m, lowered_is g)))
    (λ e. let le = le-no (lowered g) (lowered m) e in ap lowered (omega (arith, lowered_is m, lowered_is g)))

min-lowered : (m l : ℕ) → (if le_z (lowered l) (lowered m) then lowered l else lowered m) ≡ lowered (min m l)
min-lowered m l =
    by-test (λ z. z ≡ lowered (min m l)) (le_z (lowered l) (lowered m)) (lowered l) (lowered m)
    (λ e. let le = le_yes (lowered l) (lowered m) e in ap lowered (omega (arith, lowered_is m, lowered_is l)))
    (λ e. let le = le-no (lowered l) (lowered m) e in ap lowered (omega (arith, lowered_is m, lowered_is l)))

greatest-lowered : (n : ℕ) (ns : List ℕ) → greatest_need (lowered n) (map lowered ns) ≡ lowered (greatest_raised n ns)
unfolding greatest_need greatest_raised
greatest-lowered n [] = refl
greatest-lowered n (m ∷ ms) = rw (greatest-lowered n ms) (max-lowered m (greatest_raised n ms))

least-lowered : (n : ℕ) (ns : List ℕ) → least_need (lowered n) (map lowered ns) ≡ lowered (least_raised n ns)
unfolding least_need least_raised
least-lowered n [] = refl
least-lowered n (m ∷ ms) = rw (least-lowered n ms) (min-lowered m (least_raised n ms))

-- where the fold starts does not matter
greatest-from : (n : ℕ) (ns : List ℕ) → max n (greatest_raised 0 ns) ≡ greatest_raised n ns
unfolding greatest_raised
greatest-from n [] = omega arith
greatest-from n (m ∷ ms) = omega (arith, greatest-from n ms)

least-from : (x n : ℕ) (ns : List ℕ) → n ≤ x → min n (least_raised x ns) ≡ least_raised n ns
unfolding least_raised
least-from x n [] h = omega arith
least-from x n (m ∷ ms) h = omega (arith, least-from x n ms h)

pub least-at-least : (m x : ℕ) (ns : List ℕ) → m ≤ x → ((i : ℕ) → i < length ns → m ≤ get_or ns i 0) → m ≤ least_raised x ns
unfolding least_raised
least-at-least m x [] h f = h
least-at-least m x (n ∷ ns) h f = omega (arith, f 0 (omega arith), least-at-least m x ns h (λ i l. f (suc i) (omega arith)))

pub greatest-at-least : (m : ℕ) (ns : List ℕ) → 0 < length ns → ((i : ℕ) → i < length ns → m ≤ get_or ns i 0) → m ≤ greatest_raised 0 ns
unfolding greatest_raised
greatest-at-least m [] h f = absurd (omega arith)
greatest-at-least m (n ∷ ns) h f = omega (arith, f 0 (omega arith))

pub level-lowered : (ns : List ℕ) (bitpool : ℕ) → 0 < length ns → 16 ≤ least_raised (greatest_raised 0 ns) ns
    → level_of (map lowered ns) bitpool ≡
    descend (greatest_raised 0 ns - (least_raised (greatest_raised 0 ns) ns - 16)) (map lowered ns) bitpool (lowered (greatest_raised 0 ns)) 0
unfolding level_of greatest_raised least_raised
level-lowered [] bitpool some low = absurd (omega arith)
level-lowered (n ∷ ns) bitpool some low =
    let top = max n (greatest_raised 0 ns) in
    let l = min n (least_raised top ns) in
    let is-top = greatest-from n ns in
    let is-low = least-from top n ns (omega arith) in
    let far : above (lowered l -ℤ pos 16) (lowered top) ≡ top - (l - 16) =
    omega (arith, above-is (lowered l -ℤ pos 16) (lowered top), lowered_is l, lowered_is top, sub_is (lowered l) 16) in
    rw (greatest-lowered n ns, least-lowered n ns, ← is-top, ← is-low, far) refl
