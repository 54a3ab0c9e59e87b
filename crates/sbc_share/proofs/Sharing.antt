-- Of the shares of any list of needs: the bitpool is shared out whole, at most 16 to a need, and by need. All of it
-- follows from the heights of the needs above the level. `grown k`, the bits counted for a need down to the level, gives
-- the parts of the levels and the base; so the search ends where the count is exact or passes, the round leaves at most
-- one bit, and each need's bits lie between its base and `grown k + 1`.
-- Assumes nothing.
use mathlib.Core.Path.{◌≡◌, refl, sym, ap, ◌∙◌}
use mathlib.Core.Logic.{◌⊎◌, inl, inr, ⊎_elim}
use mathlib.Core.Bool.{◌&&◌}
use mathlib.Core.List.{List, [], ◌∷◌, map}
use Prim.Native.Nat.{ℕ, zero, suc, ◌+◌, ◌-◌, ◌*◌, ◌≤◌, ◌<◌, min}
use native.Mathlib.Omega.{arith}
use lib.Dec.{leb, ltb, eqb}
use lib.ListN.{length, get_or}
use lib.IntN.{ℤ, pos, pred_ℤ, ◌-ℤ◌}
use lib.Signed.{le_z, ◌<ℤ◌}
use borrow.Author.Tests.{ltb-true, ltb-false, leb-true, leb-false, eqb-true, eqb-false}
use Rattle.std.specs.Prelude.{if◌then◌else◌}
use Rattle.sbc_share.specs.Share.{sum, above, heights, level_part, level_bits, descend, greatest_need, least_need, level_of, base_bits, round_gain, round_bits, last_bit, share_at, share}
use Rattle.laws.proofs.Cases.{by-test, by_both}
use Rattle.laws.proofs.Difference.{up, down, le_yes, le-no, lt-is, pred-is, sub_is}
use Rattle.sbc_share.proofs.Integers.{above-is}

-- ---- the count down to a level, of needs that stand k above it

-- the bits counted for a need at the levels above it and at this one: 2, and 1 at each of the next 14
unfoldable pub grown : ℕ → ℕ
grown k = min 16 (k + min 1 k)

-- a level's part is what the count grows by
pub part-grown : (k : ℕ) → level_part k + grown (k - 1) ≡ grown k
unfolding level_part grown
part-grown k =
    by-test (λ x. x + grown (k - 1) ≡ grown k) (eqb k 1) 2 (if leb 2 k && leb k 15 then 1 else 0) (λ e. omega (arith, eqb-true k 1 e))
    (λ e. by_both (λ x. x + grown (k - 1) ≡ grown k) (leb 2 k) (leb k 15) 1 0
    (λ l h. omega (arith, leb-true 2 k l, leb-true k 15 h))
    (λ l. omega (arith, leb-false 2 k l, eqb-false k 1 e))
    (λ h. omega (arith, leb-false k 15 h)))

-- each case alone, as the tactics apply it
pub part_low : (k : ℕ) → k ≡ 0 → level_part k ≡ 0
unfolding grown
part_low k e = omega (arith, part-grown k)

pub part_two : (k : ℕ) → k ≡ 1 → level_part k ≡ 2
unfolding grown
part_two k e = omega (arith, part-grown k)

pub part_one : (k : ℕ) → 2 ≤ k → k ≤ 15 → level_part k ≡ 1
unfolding grown
part_one k l h = omega (arith, part-grown k)

pub part_full : (k : ℕ) → 16 ≤ k → level_part k ≡ 0
unfolding grown
part_full k h = omega (arith, part-grown k)

pub ruleset part_cases = (part_low, part_two, part_one, part_full)

-- the base is the count above the level
pub base-grown : (k : ℕ) → base_bits k ≡ grown (k - 1)
unfolding base_bits grown
base-grown k =
    by-test (λ x. x ≡ grown (k - 1)) (ltb k 2) 0 (min k 16) (λ e. omega (arith, ltb-true k 2 e)) (λ e. omega (arith, ltb-false k 2 e))

counted : List ℕ → ℕ
counted ks = sum (map grown ks)

-- the heights over the level one higher
raise : List ℕ → List ℕ
raise ks = map (λ k. k - 1) ks

level-counted : (ks : List ℕ) → level_bits ks + counted (raise ks) ≡ counted ks
unfolding level_bits counted raise sum
level-counted [] = refl
level-counted (k ∷ ks) = omega (arith, part-grown k, level-counted ks)

base-counted : (ks : List ℕ) → sum (map base_bits ks) ≡ counted (raise ks)
unfolding counted raise sum
base-counted [] = refl
base-counted (k ∷ ks) = omega (arith, base-grown k, base-counted ks)

-- ---- the search

-- the level goes down by one
above-pred : (v n : ℤ) → above (pred_ℤ v) n - 1 ≡ above v n
above-pred v n = omega (arith, above-is v n, above-is (pred_ℤ v) n, pred-is v)

raise-heights : (v : ℤ) (needs : List ℤ) → raise (heights (pred_ℤ v) needs) ≡ heights v needs
unfolding raise heights
raise-heights v [] = refl
raise-heights v (n ∷ ns) = rw (above-pred v n, raise-heights v ns) refl

-- a ≤ b, of integers
abbrev ◌≼◌ : ℤ → ℤ → Type 0
◌≼◌ a b = up a + down b ≤ up b + down a

-- every need is at most g; at least l
abbrev Under : ℤ → List ℤ → Type 0
Under g [] = Unit
Under g (n ∷ ns) = (◌≼◌ n g) × Under g ns

abbrev Over : ℤ → List ℤ → Type 0
Over l [] = Unit
Over l (n ∷ ns) = (◌≼◌ l n) × Over l ns

under_more : (g h : ℤ) (ns : List ℤ) → ◌≼◌ g h → Under g ns → Under h ns
under_more g h [] le u = tt
under_more g h (n ∷ ns) le u = (omega (arith, u.0), under_more g h ns le u.1)

over-less : (g h : ℤ) (ns : List ℤ) → ◌≼◌ h g → Over g ns → Over h ns
over-less g h [] le u = tt
over-less g h (n ∷ ns) le u = (omega (arith, u.0), over-less g h ns le u.1)

greatest-under : (n : ℤ) (ns : List ℤ) → Under (greatest_need n ns) (n ∷ ns)
unfolding greatest_need
greatest-under n [] = (omega arith, tt)
greatest-under n (m ∷ ms) =
    let g = greatest_need n ms in
    let u = greatest-under n ms in
    by-test (λ h. Under h (n ∷ m ∷ ms)) (le_z g m) m g
    (λ e. let le = le_yes g m e in (omega (arith, u.0), (omega arith, under_more g m ms le u.1)))
    (λ e. (u.0, (le-no g m e, u.1)))

least-over : (n : ℤ) (ns : List ℤ) → Over (least_need n ns) (n ∷ ns)
unfolding least_need
least-over n [] = (omega arith, tt)
least-over n (m ∷ ms) =
    let l = least_need n ms in
    let u = least-over n ms in
    by-test (λ h. Over h (n ∷ m ∷ ms)) (le_z l m) l m (λ e. (u.0, (le_yes l m e, u.1)))
    (λ e. let le = le-no l m e in (omega (arith, u.0), (omega arith, over-less l m ms le u.1)))

-- nothing is counted above the greatest need; sixteen below the least, 16 bits each
counted_none : (g : ℤ) (ns : List ℤ) → Under g ns → counted (raise (heights g ns)) ≡ 0
unfolding counted raise heights sum grown
counted_none g [] u = refl
counted_none g (n ∷ ns) u =
    let none : above g n ≡ 0 = omega (arith, u.0, above-is g n) in
    omega (arith, counted_none g ns u.1)

counted-all : (f l : ℤ) (ns : List ℤ) → up f + down l + 16 ≡ up l + down f → Over l ns → counted (raise (heights f ns)) ≡ 16 * length ns
unfolding counted raise heights sum grown
counted-all f l [] is u = refl
counted-all f l (n ∷ ns) is u =
    let far : 16 ≤ above f n = omega (arith, u.0, above-is f n) in
    omega (arith, counted-all f l ns is u.1)

-- where the search ends: the count above the level is exact, or this level's part would pass the bitpool
abbrev Ends : List ℕ → ℕ → Type 0
Ends ks bitpool = (counted (raise ks) ≡ bitpool) ⊎ ((counted (raise ks) < bitpool) × (bitpool < counted ks))

module _
    (needs : List ℤ)
    (bitpool : ℕ)
    (room : bitpool ≤ 16 * length needs)
    (f l : ℤ)
    (floor : up f + down l + 16 ≡ up l + down f)
    (over : Over l needs)
  where
    descend-ends : (d : ℕ) (v : ℤ) (count : ℕ) → up f + down v + d ≡ up v + down f → count ≡ counted (raise (heights v needs)) → count < bitpool
        → Ends (heights (descend d needs bitpool v count) needs) bitpool
    unfolding descend
    descend-ends zero v count at c under =
        let full = counted-all v l needs (omega arith) over in
        absurd (omega arith)
    descend-ends (suc d) v count at c under =
        let s : ℕ = count + level_bits (heights v needs) in
        let grows = level-counted (heights v needs) in
        let same : counted (raise (heights (pred_ℤ v) needs)) ≡ counted (heights v needs) = ap counted (raise-heights v needs) in
        by-test (λ w. Ends (heights w needs) bitpool) (ltb s bitpool) (descend d needs bitpool (pred_ℤ v) s) (if eqb s bitpool then pred_ℤ v else v)
        (λ e. descend-ends d (pred_ℤ v) s (omega (arith, pred-is v)) (omega arith) (ltb-true s bitpool e))
        (λ e. let past = ltb-false s bitpool e in
        by-test (λ w. Ends (heights w needs) bitpool) (eqb s bitpool) (pred_ℤ v) v
        (λ q. let exact = eqb-true s bitpool q in inl (omega arith))
        (λ q. let over = eqb-false s bitpool q in inr (omega arith)))

-- the level that the search ends at
level-ends : (needs : List ℤ) (bitpool : ℕ) → 0 < bitpool → bitpool ≤ 16 * length needs → Ends (heights (level_of needs bitpool) needs) bitpool
unfolding level_of
level-ends [] bitpool some room = absurd (omega arith)
level-ends (n ∷ ns) bitpool some room =
    let g = greatest_need n ns in
    let l = least_need n ns in
    let f = l -ℤ pos 16 in
    let under = greatest-under n ns in
    let over = least-over n ns in
    descend-ends (n ∷ ns) bitpool room f l (sub_is l 16) over (above f g) g 0
    (omega (arith, above-is f g, sub_is l 16, under.0, over.0))
    (sym (counted_none g (n ∷ ns) under))
    some

-- ---- the round

-- a level's part, by the base
part-mid : (k : ℕ) → 2 ≤ base_bits k → base_bits k ≤ 15 → level_part k ≡ 1
unfolding grown
part-mid k l h = omega (arith, part-grown k, base-grown k)

part_none : (k : ℕ) → (k ≡ 1 → ⊥) → (base_bits k < 2) ⊎ (15 < base_bits k) → level_part k ≡ 0
unfolding grown
part_none k f (inl l) = omega (arith, part-grown k, base-grown k)
part_none k f (inr l) = omega (arith, part-grown k, base-grown k)

part-one : (k : ℕ) → k ≡ 1 → (level_part k ≡ 2) × (base_bits k ≡ 0)
unfolding grown
part-one k e = omega (arith, part-grown k, base-grown k)

-- the round gives a need the level's part, unless at most one bit is left
abbrev pub Gains : ℕ → ℕ → ℕ → Type 0
Gains k left x = (x ≤ level_part k) × (x ≤ left) × (2 ≤ left → x ≡ level_part k)

pub gains : (k left : ℕ) → Gains k left (round_gain k left)
unfolding round_gain
gains k left =
    let inner : ℕ = (if eqb k 1 && leb 2 left then 2 else 0) in
    let low-or-full : (base_bits k < 2) ⊎ (15 < base_bits k) → Gains k left inner = λ s. by_both (Gains k left) (eqb k 1) (leb 2 left) 2 0
    (λ q h. omega (arith, part-one k (eqb-true k 1 q), leb-true 2 left h))
    (λ q. omega (arith, part_none k (eqb-false k 1 q) s))
    (λ h. omega (arith, leb-false 2 left h)) in
    by_both (Gains k left) (leb 2 (base_bits k)) (leb (base_bits k) 15) (min 1 left) inner
    (λ l h. omega (arith, part-mid k (leb-true 2 (base_bits k) l) (leb-true (base_bits k) 15 h)))
    (λ l. low-or-full (inl (leb-false 2 (base_bits k) l)))
    (λ l. low-or-full (inr (leb-false (base_bits k) 15 l)))

-- the gain, by the height
pub record GainIs (k left x : ℕ) : Type 0 where
  pub mid : 2 ≤ k → k ≤ 15 → x ≡ min 1 left
  pub at : k ≡ 1 → 2 ≤ left → x ≡ 2
  pub short : k ≡ 1 → left ≤ 1 → x ≡ 0
  pub none : k ≡ 0 → x ≡ 0
  pub full : 16 ≤ k → x ≡ 0

pub gain_is : (k left : ℕ) → GainIs k left (round_gain k left)
unfolding round_gain grown
gain_is k left =
    let inner : ℕ = (if eqb k 1 && leb 2 left then 2 else 0) in
    let low-or-full : (k ≤ 1) ⊎ (16 ≤ k) → GainIs k left inner = λ s. by_both (GainIs k left) (eqb k 1) (leb 2 left) 2 0
    (λ q h. ⊎_elim (λ l. omega (arith, eqb-true k 1 q, leb-true 2 left h)) (λ l. omega (arith, eqb-true k 1 q, leb-true 2 left h)) s)
    (λ q. ⊎_elim (λ l. omega (arith, eqb-false k 1 q)) (λ l. omega (arith, eqb-false k 1 q)) s)
    (λ h. ⊎_elim (λ l. omega (arith, leb-false 2 left h)) (λ l. omega (arith, leb-false 2 left h)) s) in
    by_both (GainIs k left) (leb 2 (base_bits k)) (leb (base_bits k) 15) (min 1 left) inner
    (λ l h.
    let a = leb-true 2 (base_bits k) l in
    let b = leb-true (base_bits k) 15 h in
    let m : (2 ≤ k) × (k ≤ 15) = omega (arith, base-grown k) in
    omega arith)
    (λ l. low-or-full (inl (omega (arith, base-grown k, leb-false 2 (base_bits k) l))))
    (λ l. low-or-full (inr (omega (arith, base-grown k, leb-false (base_bits k) 15 l))))

-- each case alone, as the tactics apply it
pub gain_two : (k left : ℕ) → k ≡ 1 → 2 ≤ left → round_gain k left ≡ 2
gain_two k left e h = (gain_is k left).at e h

pub gain_short : (k left : ℕ) → k ≡ 1 → left ≤ 1 → round_gain k left ≡ 0
gain_short k left e h = (gain_is k left).short e h

pub gain_none : (k left : ℕ) → k ≡ 0 → round_gain k left ≡ 0
gain_none k left e = (gain_is k left).none e

pub gain_one : (k left : ℕ) → 2 ≤ k → k ≤ 15 → 0 < left → round_gain k left ≡ 1
gain_one k left l h some = omega (arith, (gain_is k left).mid l h)

pub gain_full : (k left : ℕ) → 16 ≤ k → round_gain k left ≡ 0
gain_full k left h = (gain_is k left).full h

pub ruleset gain_cases = (gains, gain_two, gain_short, gain_none, gain_one, gain_full)

-- what is left after the round
after : List ℕ → ℕ → ℕ
after [] left = left
after (k ∷ ks) left = after ks (left - round_gain k left)

after-le : (ks : List ℕ) (left : ℕ) → after ks left ≤ left
unfolding after
after-le [] left = omega arith
after-le (k ∷ ks) left = omega (arith, after-le ks (left - round_gain k left))

round-sum : (ks : List ℕ) (left : ℕ) → sum (round_bits ks left) + after ks left ≡ sum (map base_bits ks) + left
unfolding after round_bits sum
round-sum [] left = refl
round-sum (k ∷ ks) left = omega (arith, round-sum ks (left - round_gain k left), gains k left)

-- less than the level's bits are left: the round leaves at most one
after_one : (ks : List ℕ) (left : ℕ) → left < level_bits ks → after ks left ≤ 1
unfolding after level_bits sum
after_one [] left h = absurd (omega arith)
after_one (k ∷ ks) left h =
    by-test (λ (x : ℕ). after (k ∷ ks) left ≤ 1) (leb 2 left) 0 0
    (λ e. let g = gains k left in let q = g.2 (leb-true 2 left e) in after_one ks (left - round_gain k left) (omega arith))
    (λ e. omega (arith, after-le (k ∷ ks) left, leb-false 2 left e))

pub length-round : (ks : List ℕ) (left : ℕ) → length (round_bits ks left) ≡ length ks
unfolding round_bits
length-round [] left = refl
length-round (k ∷ ks) left = ap suc (length-round ks (left - round_gain k left))

-- ---- the last bit

-- it finds its place where there is room
last_sum : (left : ℕ) (bits : List ℕ) → left ≤ 1 → sum bits + left ≤ 16 * length bits → sum (last_bit left bits) ≡ sum bits + left
unfolding last_bit sum
last_sum zero bits h room = omega arith
last_sum (suc left) [] h room = absurd (omega arith)
last_sum (suc left) (b ∷ bs) h room =
    by-test (λ (x : List ℕ). sum x ≡ b + sum bs + suc left) (ltb b 16) ((b + 1) ∷ bs) (b ∷ last_bit (suc left) bs) (λ e. omega arith)
    (λ e. let l = ltb-false b 16 e in omega (arith, last_sum (suc left) bs h (omega arith)))

-- the shares add up to the bitpool
share-sum : (ks : List ℕ) (bitpool : ℕ) → bitpool ≤ 16 * length ks → Ends ks bitpool → sum (share_at ks bitpool) ≡ bitpool
unfolding share_at
share-sum ks bitpool room ends =
    let left = bitpool - sum (map base_bits ks) in
    let bits = round_bits ks left in
    let total = round-sum ks left in
    let len = length-round ks left in
    let based = base-counted ks in
    let grows = level-counted ks in
    let one : after ks left ≤ 1 = ⊎_elim (λ e. omega (arith, after-le ks left)) (λ e. after_one ks left (omega (arith, e))) ends in
    let some : sum (map base_bits ks) ≤ bitpool = ⊎_elim (λ e. omega arith) (λ e. omega (arith, e)) ends in
    last_sum (bitpool - sum bits) bits (omega arith) (omega arith) ∙ omega arith

-- ---- each need's bits

-- at least the base; at most the base, the level's part and so many more; at most 16
abbrev Between : ℕ → List ℕ → List ℕ → Type 0
Between more [] [] = Unit
Between more [] (b ∷ bs) = ⊥
Between more (k ∷ ks) [] = ⊥
Between more (k ∷ ks) (b ∷ bs) = ((base_bits k ≤ b) × (b ≤ grown k + more) × (b ≤ 16)) × Between more ks bs

grown-16 : (k : ℕ) → grown k ≤ 16
unfolding grown
grown-16 k = omega arith

round-between : (ks : List ℕ) (left : ℕ) → Between 0 ks (round_bits ks left)
unfolding round_bits
round-between [] left = tt
round-between (k ∷ ks) left =
    (omega (arith, gains k left, base-grown k, part-grown k, grown-16 k), round-between ks (left - round_gain k left))

between_more : (ks bs : List ℕ) → Between 0 ks bs → Between 1 ks bs
between_more [] [] w = tt
between_more [] (b ∷ bs) w = w
between_more (k ∷ ks) [] w = w
between_more (k ∷ ks) (b ∷ bs) w = (omega (arith, w.0), between_more ks bs w.1)

last-between : (left : ℕ) (ks bs : List ℕ) → Between 0 ks bs → Between 1 ks (last_bit left bs)
unfolding last_bit
last-between zero ks bs w = between_more ks bs w
last-between (suc left) [] [] w = tt
last-between (suc left) [] (b ∷ bs) w = absurd w
last-between (suc left) (k ∷ ks) [] w = w
last-between (suc left) (k ∷ ks) (b ∷ bs) w =
    by-test (Between 1 (k ∷ ks)) (ltb b 16) ((b + 1) ∷ bs) (b ∷ last_bit (suc left) bs)
    (λ e. (omega (arith, w.0, ltb-true b 16 e), between_more ks bs w.1))
    (λ e. (omega (arith, w.0), last-between (suc left) ks bs w.1))

between-length : (more : ℕ) (ks bs : List ℕ) → Between more ks bs → length bs ≡ length ks
between-length more [] [] w = refl
between-length more [] (b ∷ bs) w = absurd w
between-length more (k ∷ ks) [] w = absurd w
between-length more (k ∷ ks) (b ∷ bs) w = ap suc (between-length more ks bs w.1)

between-at : (more : ℕ) (ks bs : List ℕ) → Between more ks bs → (i : ℕ) → i < length ks
    → (base_bits (get_or ks i 0) ≤ get_or bs i 0) × (get_or bs i 0 ≤ grown (get_or ks i 0) + more) × (get_or bs i 0 ≤ 16)
between-at more [] [] w i h = absurd (omega arith)
between-at more [] (b ∷ bs) w i h = absurd w
between-at more (k ∷ ks) [] w i h = absurd w
between-at more (k ∷ ks) (b ∷ bs) w zero h = w.0
between-at more (k ∷ ks) (b ∷ bs) w (suc i) h = between-at more ks bs w.1 i (omega arith)

between-16 : (more : ℕ) (ks bs : List ℕ) → Between more ks bs → (i : ℕ) → get_or bs i 0 ≤ 16
between-16 more [] [] w i = omega arith
between-16 more [] (b ∷ bs) w i = absurd w
between-16 more (k ∷ ks) [] w i = absurd w
between-16 more (k ∷ ks) (b ∷ bs) w zero = w.0.2
between-16 more (k ∷ ks) (b ∷ bs) w (suc i) = between-16 more ks bs w.1 i

share-between : (ks : List ℕ) (bitpool : ℕ) → Between 1 ks (share_at ks bitpool)
unfolding share_at
share-between ks bitpool =
    let left = bitpool - sum (map base_bits ks) in
    last-between (bitpool - sum (round_bits ks left)) ks (round_bits ks left) (round-between ks left)

-- the most that the lesser need can have, against the least that the greater has
apart : (m n a b : ℕ) → (m ≡ 0) ⊎ (m < n) → a ≤ grown m + 1 → a ≤ 16 → base_bits n ≤ b → a ≤ b + 1
unfolding grown
apart m n a b (inl l) high sixteen low = omega arith
apart m n a b (inr l) high sixteen low = omega (arith, base-grown n)

-- ---- the theorem

length-heights : (v : ℤ) (needs : List ℤ) → length (heights v needs) ≡ length needs
unfolding heights
length-heights v [] = refl
length-heights v (n ∷ ns) = ap suc (length-heights v ns)

pub share-16 : (needs : List ℤ) (bitpool i : ℕ) → get_or (share needs bitpool) i 0 ≤ 16
unfolding share
share-16 needs bitpool i =
    let ks = heights (level_of needs bitpool) needs in
    between-16 1 ks (share_at ks bitpool) (share-between ks bitpool) i

pub length-share : (needs : List ℤ) (bitpool : ℕ) → length (share needs bitpool) ≡ length needs
unfolding share
length-share needs bitpool =
    let ks = heights (level_of needs bitpool) needs in
    between-length 1 ks (share_at ks bitpool) (share-between ks bitpool) ∙ length-heights (level_of needs bitpool) needs

get_or-heights : (v : ℤ) (needs : List ℤ) (i : ℕ) → i < length needs → get_or (heights v needs) i 0 ≡ above v (get_or needs i (pos 0))
unfolding heights
get_or-heights v [] i h = absurd (omega arith)
get_or-heights v (n ∷ ns) zero h = refl
get_or-heights v (n ∷ ns) (suc i) h = get_or-heights v ns i (omega arith)

higher : (v m n : ℤ) → up m + down n < up n + down m → (above v m ≡ 0) ⊎ (above v m < above v n)
higher v m n h =
    by-test (λ (x : ℕ). (above v m ≡ 0) ⊎ (above v m < above v n)) (eqb (above v m) 0) 0 0 (λ e. inl (eqb-true (above v m) 0 e))
    (λ e. let some = eqb-false (above v m) 0 e in inr (omega (arith, above-is v m, above-is v n)))

-- what holds of the shares of a list of needs
pub record ByNeed (bitpool : ℕ) (needs : List ℤ) (bits : List ℕ) : Type 0 where
  pub one_each : length bits ≡ length needs
  pub whole : sum bits ≡ bitpool
  pub most : (i : ℕ) → i < length needs → get_or bits i 0 ≤ 16
  pub ordered : (i j : ℕ) → i < length needs → j < length needs → get_or needs i (pos 0) <ℤ get_or needs j (pos 0) → get_or bits i 0 ≤ get_or bits j 0 + 1

pub share-by-need : (needs : List ℤ) (bitpool : ℕ) → 0 < bitpool → bitpool ≤ 16 * length needs → ByNeed bitpool needs (share needs bitpool)
unfolding share
share-by-need needs bitpool some room =
    let v = level_of needs bitpool in
    let ks = heights v needs in
    let bits = share_at ks bitpool in
    let len = length-heights v needs in
    let between = share-between ks bitpool in
    let at = between-at 1 ks bits between in
    record {
      one_each = between-length 1 ks bits between ∙ len;
      whole = share-sum ks bitpool (omega arith) (level-ends needs bitpool some room);
      most = λ i h. (at i (omega arith)).2;
      ordered = λ i j hi hj less.
          let m = get_or needs i (pos 0) in
          let n = get_or needs j (pos 0) in
          let a = at i (omega arith) in
          let b = at j (omega arith) in
          let low : base_bits (above v n) ≤ get_or bits j 0 = rw (get_or-heights v needs j hj) at b.0 in
          let high : get_or bits i 0 ≤ grown (above v m) + 1 = rw (get_or-heights v needs i hi) at a.1 in
          apart (above v m) (above v n) (get_or bits i 0) (get_or bits j 0) (higher v m n (lt-is m n less)) high a.2 low;
    }
