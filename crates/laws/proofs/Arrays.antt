-- Laws of arrays that a loop fills from the front or overwrites in part: a store, the end, the entries and their bounds.
-- Assumes nothing.
use Prim.Native.Nat.{ℕ, zero, suc, ◌+◌, ◌-◌, ◌≤◌, ◌<◌, zero-le}
use mathlib.Core.Path.{◌≡◌, refl, sym, ap, ap₂, ◌∙◌}
use mathlib.Core.Logic.{◌≢◌}
use mathlib.Core.List.{List, [], ◌∷◌, ◌++◌, append_assoc}
use native.Mathlib.Nat.{le_refl, not-suc-le-zero}
use native.Mathlib.Decide.{ℕ_discrete}
use native.Mathlib.Numerals.{add-one}
use native.Mathlib.Omega.{arith}
use lib.Dec.{ltb}
use lib.ListN.{length, get_or, take, drop, set, replicate, length-set, length-replicate, get_or-replicate}
use lib.Seq.{drop-cons, drop-drop, take-suc-set, drop-set-lt, get_or-set_same, get_or-set_other}
use lib.IntN.{ℤ, pos, nat_abs}
use mir.Syntax.{Width}
use mir.Val.{SFits, to_z, of_z}
use mir.Facts.{to_z-of_z}
use borrow.Author.Tests.{lt-ltb, le-ltb, ltb-true, ltb-false}
use Rattle.laws.specs.Integers.{Within}
use Rattle.laws.specs.Lists.{build}
use Rattle.laws.specs.Sums.{up_to, overwrite}
use Rattle.laws.proofs.Cases.{by-test}
use Rattle.laws.proofs.Lists.{length-build, get_or-build, build-is, build-ext, build-all}

-- ---- one store
-- a store at i makes a list built of f one built of g, where g has at i what is stored and agrees with f elsewhere
pub build-set : {A : Type 0} (n : ℕ) (f g : ℕ → A) (i : ℕ) (v d : A) → v ≡ g i → ((k : ℕ) → k ≢ i → f k ≡ g k)
    → set (build n f) i v ≡ build n g
build-set {A} n f g i v d e same =
    sym (build-is n g (set (build n f) i v) d (length-set (build n f) i v ∙ length-build n f) (λ k p. go k p (ℕ_discrete k i)))
  where
    go : (k : ℕ) → k < n → Dec (k ≡ i) → g k ≡ get_or (set (build n f) i v) k d
    go k p (yes q) = rw q (sym e ∙ sym (get_or-set_same (build n f) i v d (rw (length-build n f) (rw q at p))))
    go k p (no ne) = sym (same k ne) ∙ sym (get_or-set_other (build n f) i k v d ne ∙ get_or-build n f k d p)

-- ---- f below n, and 0 from n on
up_to-below : (n : ℕ) (f : ℕ → ℤ) (k : ℕ) → k < n → up_to n f k ≡ f k
up_to-below n f k h = rw (lt-ltb k n h)

up_to-from : (n : ℕ) (f : ℕ → ℤ) (k : ℕ) → n ≤ k → up_to n f k ≡ pos 0
up_to-from n f k h = rw (le-ltb k n h)

-- what holds of f below n, and of 0, holds at every place
up_to-all : (P : ℤ → Type 0) (n : ℕ) (f : ℕ → ℤ) (k : ℕ) → (k < n → P (f k)) → (n ≤ k → P (pos 0)) → P (up_to n f k)
up_to-all P n f k h z = by-test P (ltb k n) (f k) (pos 0) (λ e. h (ltb-true k n e)) (λ e. z (ltb-false k n e))

-- ---- an array of n zeros that a loop fills with f 0, f 1, ..: nothing filled yet, one turn, the end, all filled
pub fill_none : (n : ℕ) (f : ℕ → ℤ) → replicate n (pos 0) ≡ build n (up_to 0 f)
fill_none n f =
    sym (build-is n (up_to 0 f) (replicate n (pos 0)) (pos 0) (length-replicate n (pos 0))
    (λ i h. up_to-from 0 f i zero-le ∙ sym (get_or-replicate n i (pos 0) (pos 0) h)))

up_to-other : (i : ℕ) (f : ℕ → ℤ) (k : ℕ) → k ≢ i → up_to (i + 1) f k ≡ up_to i f k
up_to-other i f k ne =
    up_to-all (λ z. up_to (i + 1) f k ≡ z) i f k (λ h. up_to-below (i + 1) f k (omega arith)) (λ h. up_to-from (i + 1) f k (omega arith))

fill-store : (n i : ℕ) (f : ℕ → ℤ) → set (build n (up_to i f)) i (f i) ≡ build n (up_to (i + 1) f)
fill-store n i f =
    build-set n (up_to i f) (up_to (i + 1) f) i (f i) (pos 0) (sym (up_to-below (i + 1) f i (omega arith))) (λ k ne. sym (up_to-other i f k ne))

-- what is stored at i is f i, as the machine reads it back
pub stored : (w : Width) (n i : ℕ) (f : ℕ → ℤ) (xs : List ℤ) (v : ℤ) → SFits w v → i < n → xs ≡ build n (up_to i f) → v ≡ f i
    → set xs i (to_z w (of_z w v)) ≡ build n (up_to (i + 1) f)
stored w n i f xs v s h e q = ap₂ (λ (ys : List ℤ) (x : ℤ). set ys i x) e (to_z-of_z s ∙ q) ∙ fill-store n i f

pub filled : (n i j : ℕ) (f : ℕ → ℤ) (xs : List ℤ) → i ≤ j → j ≤ i → xs ≡ build n (up_to i f) → xs ≡ build n (up_to j f)
filled n i j f xs h k e = e ∙ ap (λ (m : ℕ). build n (up_to m f)) (omega arith)

-- the entries, equal entries, and their bound
pub get_or-filled : (n m : ℕ) (f : ℕ → ℤ) (xs : List ℤ) (k : ℕ) → xs ≡ build n (up_to m f) → k < m → m ≤ n → get_or xs k (pos 0) ≡ f k
get_or-filled n m f xs k e h p =
    ap (λ (ys : List ℤ). get_or ys k (pos 0)) e ∙ get_or-build n (up_to m f) k (pos 0) (omega arith) ∙ up_to-below m f k h

pub filled-ext : (n m : ℕ) (f g : ℕ → ℤ) → ((k : ℕ) → k < m → f k ≡ g k) → build n (up_to m f) ≡ build n (up_to m g)
filled-ext n m f g h =
    build-ext n (up_to m f) (up_to m g)
    (λ k p. sym (up_to-all (λ z. up_to m g k ≡ z) m f k (λ l. up_to-below m g k l ∙ sym (h k l)) (up_to-from m g k)))

pub within-up_to : (n m b : ℕ) (f : ℕ → ℤ) → ((k : ℕ) → k < m → nat_abs (f k) ≤ b) → Within b (build n (up_to m f))
within-up_to n m b f h i = build-all (λ z. nat_abs z ≤ b) n (up_to m f) i (pos 0) (λ j. up_to-all (λ z. nat_abs z ≤ b) m f j (h j) (λ _. zero-le)) zero-le

-- ---- a part of a list overwritten: nothing yet, one turn, the length, and the entries below, above and within the part
module _ {A : Type 0} (at : ℕ) (f : ℕ → A) (xs : List A) where
  pub overwrite-none : xs ≡ overwrite at 0 f xs
  unfolding overwrite
  overwrite-none = refl

  overwrite-more : (n : ℕ) → set (overwrite at n f xs) (at + n) (f n) ≡ overwrite at (n + 1) f xs
  unfolding overwrite
  overwrite-more n = ap (λ (k : ℕ). overwrite at k f xs) (sym (add-one n))

  pub length-overwrite : (n : ℕ) → length (overwrite at n f xs) ≡ length xs
  unfolding overwrite
  length-overwrite zero = refl
  length-overwrite (suc n) = length-set (overwrite at n f xs) (at + n) (f n) ∙ length-overwrite n

  pub overwrite-below : (n p : ℕ) (d : A) → p < at → get_or (overwrite at n f xs) p d ≡ get_or xs p d
  unfolding overwrite
  overwrite-below zero p d h = refl
  overwrite-below (suc n) p d h = get_or-set_other (overwrite at n f xs) (at + n) p (f n) d (omega arith) ∙ overwrite-below n p d h

  pub overwrite-above : (n p : ℕ) (d : A) → at + n ≤ p → get_or (overwrite at n f xs) p d ≡ get_or xs p d
  unfolding overwrite
  overwrite-above zero p d h = refl
  overwrite-above (suc n) p d h = get_or-set_other (overwrite at n f xs) (at + n) p (f n) d (omega arith) ∙ overwrite-above n p d (omega arith)

  pub overwrite-at : (n k : ℕ) (d : A) → k < n → at + n ≤ length xs → get_or (overwrite at n f xs) (at + k) d ≡ f k
  unfolding overwrite
  overwrite-at zero k d h l = absurd (not-suc-le-zero h)
  overwrite-at (suc n) k d h l = go (ℕ_discrete k n) (λ p. overwrite-at n k d p (omega arith))
    where
      go : Dec (k ≡ n) → (k < n → get_or (overwrite at n f xs) (at + k) d ≡ f k) → get_or (set (overwrite at n f xs) (at + n) (f n)) (at + k) d ≡ f k
      go (yes e) r = rw e (get_or-set_same (overwrite at n f xs) (at + n) (f n) d (omega (arith, length-overwrite n)))
      go (no ne) r = get_or-set_other (overwrite at n f xs) (at + n) (at + k) (f n) d (omega arith) ∙ r (omega arith)

-- what is stored is f n, as the machine reads it back
pub overwritten : (w : Width) (at n : ℕ) (f : ℕ → ℤ) (xs ys : List ℤ) (v : ℤ) → SFits w v → ys ≡ overwrite at n f xs → v ≡ f n
    → set ys (at + n) (to_z w (of_z w v)) ≡ overwrite at (n + 1) f xs
overwritten w at n f xs ys v s e q = ap₂ (λ (zs : List ℤ) (x : ℤ). set zs (at + n) x) e (to_z-of_z s ∙ q) ∙ overwrite-more at f xs n

-- equal entries, and their bound
pub overwrite-ext : {A : Type 0} (at n : ℕ) (f g : ℕ → A) (xs : List A) → ((k : ℕ) → k < n → f k ≡ g k) → overwrite at n f xs ≡ overwrite at n g xs
unfolding overwrite
overwrite-ext at zero f g xs h = refl
overwrite-ext {A} at (suc n) f g xs h =
    ap₂ (λ (ys : List A) (z : A). set ys (at + n) z) (overwrite-ext at n f g xs (λ k p. h k (omega arith))) (h n (le_refl (suc n)))

set-within : (b i : ℕ) (z : ℤ) (xs : List ℤ) → nat_abs z ≤ b → Within b xs → Within b (set xs i z)
set-within b i z [] h w k = w k
set-within b zero z (x ∷ xs) h w zero = h
set-within b zero z (x ∷ xs) h w (suc k) = w (suc k)
set-within b (suc i) z (x ∷ xs) h w zero = w 0
set-within b (suc i) z (x ∷ xs) h w (suc k) = set-within b i z xs h (λ j. w (suc j)) k

pub within-overwrite : (b at n : ℕ) (f : ℕ → ℤ) (xs : List ℤ) → Within b xs → ((k : ℕ) → k < n → nat_abs (f k) ≤ b) → Within b (overwrite at n f xs)
unfolding overwrite
within-overwrite b at zero f xs w h = w
within-overwrite b at (suc n) f xs w h =
    set-within b (at + n) (f n) (overwrite at n f xs) (h n (le_refl (suc n))) (within-overwrite b at n f xs w (λ k p. h k (omega arith)))

-- ---- lists of naturals, by what is left of them: the list from an index on
pub from-here : (ns : List ℕ) (i : ℕ) → i < length ns → drop i ns ≡ get_or ns i 0 ∷ drop (i + 1) ns
from-here ns i h = rw (add-one, drop-cons ns i 0)

-- one more is written, and zeros are left behind it
pub written : (xs : List ℕ) (i b : ℕ) (more : List ℕ) → i < length xs → take (i + 1) (set xs i b) ++ more ≡ take i xs ++ b ∷ more
written xs i b more h = rw (add-one, take-suc-set xs i b h, append_assoc)

pub zeros-behind : (n : ℕ) (xs : List ℕ) (i b : ℕ) → i < n → drop i xs ≡ replicate (n - i) 0 → drop (i + 1) (set xs i b) ≡ replicate (n - (i + 1)) 0
zeros-behind n xs i b h e =
    let more : n - i ≡ suc (n - (i + 1)) = omega arith in
    let tail : drop 1 (drop i xs) ≡ replicate (n - (i + 1)) 0 = rw (e, more) in
    drop-set-lt (i + 1) xs i b (omega arith) ∙ sym (drop-drop 1 i xs) ∙ tail
