-- What the loops and chains over a group's needs or bits give, in the words of the definitions.
-- Assumes nothing.
use mathlib.Core.Path.{◌≡◌, refl, ◌∙◌}
use mathlib.Core.List.{List, [], ◌∷◌, map}
use Prim.Native.Nat.{ℕ, zero, suc, ◌+◌, ◌-◌, ◌*◌, ◌≤◌, ◌<◌, min, max}
use native.Mathlib.Omega.{arith}
use lib.ListN.{length, get_or, drop, set, drop_of_length-le}
use borrow.Author.Tests.{lt-ltb, le-ltb}
use Rattle.laws.proofs.Arrays.{from-here}
use Rattle.std.specs.List.{fold, sum_by}
use Rattle.std.proofs.lemmas.List.Recursion.{is_sum_by}
use Rattle.sbc_share.specs.Share.{sum, level_part, level_bits, base_bits, round_gain, round_bits, last_bit}
use Rattle.sbc_share.proofs.Padded.{length-excesses}
use Rattle.sbc_share.proofs.Sharing.{grown, part-grown}
use Rattle.sbc_share.specs.Raised.{greatest_raised, least_raised, excesses}

-- ---- the library's words for a group's sums and bounds

pub heights_sum : (f : ℕ → ℕ) (level : ℕ) (ns : List ℕ) → sum (map f (excesses level ns)) ≡ sum_by (λ n. f (n - level)) ns
unfolding sum excesses
heights_sum f level = is_sum_by (λ ns. sum (map f (excesses level ns))) (λ n. f (n - level)) refl (λ n ns. refl)

pub level_sum : (level : ℕ) (ns : List ℕ) → level_bits (excesses level ns) ≡ sum_by (λ n. level_part (n - level)) ns
unfolding level_bits
level_sum level ns = heights_sum level_part level ns

-- at most two bits of each need
two_each : (ks : List ℕ) → level_bits ks ≤ 2 * length ks
unfolding level_bits sum grown
two_each [] = omega arith
two_each (k ∷ ks) = omega (arith, two_each ks, part-grown k)

pub level_few : (level : ℕ) (ns : List ℕ) → sum_by (λ n. level_part (n - level)) ns ≤ 2 * length ns
level_few level ns = omega (arith, level_sum level ns, two_each (excesses level ns), length-excesses level ns)

pub bits_sum : (xs : List ℕ) → sum xs ≡ sum_by (λ x. x) xs
unfolding sum
bits_sum = is_sum_by sum (λ x. x) refl (λ x xs. refl)

greatest-later : (n m : ℕ) (ms : List ℕ) → max m (greatest_raised n ms) ≡ greatest_raised (max n m) ms
unfolding greatest_raised
greatest-later n m [] = omega arith
greatest-later n m (k ∷ ms) = omega (arith, greatest-later n m ms)

least-later : (n m : ℕ) (ms : List ℕ) → min m (least_raised n ms) ≡ least_raised (min n m) ms
unfolding least_raised
least-later n m [] = omega arith
least-later n m (k ∷ ms) = omega (arith, least-later n m ms)

-- the fold goes from the front, and the definition from the end
pub greatest_fold : (n : ℕ) (ns : List ℕ) → greatest_raised n ns ≡ fold max n ns
unfolding greatest_raised
greatest_fold n [] = refl
greatest_fold n (m ∷ ms) = greatest-later n m ms ∙ greatest_fold (max n m) ms

pub least_fold : (n : ℕ) (ns : List ℕ) → least_raised n ns ≡ fold min n ns
unfolding least_raised
least_fold n [] = refl
least_fold n (m ∷ ms) = least-later n m ms ∙ least_fold (min n m) ms

-- ---- the round

pub round-step : (level : ℕ) (ns : List ℕ) (i left : ℕ) → i < length ns
    → let k = get_or ns i 0 - level in
    round_bits (excesses level (drop i ns)) left
    ≡ (base_bits k + round_gain k left) ∷ round_bits (excesses level (drop (i + 1) ns)) (left - round_gain k left)
unfolding round_bits excesses
round-step level ns i left h = rw (from-here ns i h) refl

pub round-end : (level : ℕ) (ns : List ℕ) (i left : ℕ) → length ns ≤ i → round_bits (excesses level (drop i ns)) left ≡ []
unfolding round_bits excesses
round-end level ns i left h = rw (drop_of_length-le ns h) refl

-- ---- the last bit

-- no one has room
pub none_found : (xs : List ℕ) → ((j : ℕ) → j < length xs → 16 ≤ get_or xs j 0) → last_bit 1 xs ≡ xs
unfolding last_bit
none_found [] full = refl
none_found (x ∷ xs) full = rw (le-ltb x 16 (full 0 (omega arith)), none_found xs (λ j l. full (suc j) (omega arith))) refl

pub last_found : (xs : List ℕ) (i : ℕ) → i < length xs → ((j : ℕ) → j < i → 16 ≤ get_or xs j 0) → get_or xs i 0 < 16
    → last_bit 1 xs ≡ set xs i (get_or xs i 0 + 1)
unfolding last_bit
last_found [] i h full room = absurd (omega arith)
last_found (x ∷ xs) zero h full room = rw (lt-ltb x 16 room) refl
last_found (x ∷ xs) (suc i) h full room =
    rw (le-ltb x 16 (full 0 (omega arith)), last_found xs i (omega arith) (λ j l. full (suc j) (omega arith)) room) refl
