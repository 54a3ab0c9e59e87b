-- Laws of lists and sums by index.
-- Assumes nothing.
use Prim.Native.Nat.{ℕ, zero, suc, ◌+◌, ◌*◌, ◌≤◌, ◌<◌}
use mathlib.Core.Path.{◌≡◌, refl, sym, ap, ap₂, ◌∙◌, subst, subst₂}
use mathlib.Core.Logic.{◌⊎◌, inl, inr}
use mathlib.Core.Bool.{Bool, true, false}
use mathlib.Core.List.{List, [], ◌∷◌, ◌++◌, append_assoc}
use native.Mathlib.Nat.{not-suc-le-zero, le_of_suc-le-suc, eq-or-lt_of_le, zero-mul, suc-mul}
use native.Mathlib.Omega.{arith}
use lib.Dec.{ltb}
use lib.ListN.{length, get_or, drop, length-append, get_or-append, get_or-eq_default}
use lib.Seq.{drop-drop, drop_at, get_or_at, ext_get_or}
use borrow.Author.Tests.{ltb-true, ltb-false}
use Rattle.laws.specs.Lists.{collect, build, total}

-- ---- sums
pub total-const : (n k : ℕ) → total n (λ _. k) ≡ n * k
unfolding total
total-const zero k = sym (zero-mul k)
total-const (suc n) k = ap (λ m. m + k) (total-const n k) ∙ sym (suc-mul n k)

pub total_ext : (n : ℕ) (f g : ℕ → ℕ) → ((i : ℕ) → i < n → f i ≡ g i) → total n f ≡ total n g
unfolding total
total_ext zero f g h = refl
total_ext (suc n) f g h = ap₂ ◌+◌ (total_ext n f g (λ i lt. h i (omega arith))) (h n (omega arith))

module _ {ℓ} {A : Type ℓ} where
  -- ---- built lists
  pub length-build : (n : ℕ) (f : ℕ → A) → length (build n f) ≡ n
  unfolding build collect
  length-build zero f = refl
  length-build (suc n) f = length-append (build n f) (f n ∷ []) ∙ omega (arith, length-build n f)

  pub get_or-build : (n : ℕ) (f : ℕ → A) (i : ℕ) (d : A) → i < n → get_or (build n f) i d ≡ f i
  unfolding build collect
  get_or-build zero f i d lt = absurd (not-suc-le-zero lt)
  get_or-build (suc n) f i d lt = go (get_or-build n f i d) (eq-or-lt_of_le (le_of_suc-le-suc lt))
    where
      go : (i < n → get_or (build n f) i d ≡ f i) → (i ≡ n) ⊎ (i < n) → get_or (build n f ++ (f n ∷ [])) i d ≡ f i
      go rec (inl e) = rw e (get_or_at (build n f) (f n) [] d n (length-build n f))
      go rec (inr l) = get_or-append (build n f) (f n ∷ []) d i (omega (arith, length-build n f)) ∙ rec l

  pub get_or-build-out : (n : ℕ) (f : ℕ → A) (i : ℕ) (d : A) → n ≤ i → get_or (build n f) i d ≡ d
  get_or-build-out n f i d le = get_or-eq_default (build n f) d (rw length-build le)

  -- a list is what is built of its elements
  pub build-is : (n : ℕ) (f : ℕ → A) (l : List A) (d : A) → length l ≡ n → ((i : ℕ) → i < n → f i ≡ get_or l i d) → build n f ≡ l
  build-is n f l d e h =
      ext_get_or d (build n f) l (length-build n f ∙ sym e)
      (λ i lt. let lt' : i < n = rw length-build at lt in get_or-build n f i d lt' ∙ h i lt')

  pub build-ext : (n : ℕ) (f g : ℕ → A) → ((i : ℕ) → i < n → f i ≡ g i) → build n f ≡ build n g
  unfolding build collect
  build-ext zero f g h = refl
  build-ext (suc n) f g h = ap₂ {C = List A} (λ l a. l ++ (a ∷ [])) (build-ext n f g (λ i lt. h i (omega arith))) (h n (omega arith))

  -- what holds of everything built, and of what stands for the rest, holds at every place
  pub build-all : (P : A → Type 0) (n : ℕ) (f : ℕ → A) (i : ℕ) (d : A) → ((j : ℕ) → P (f j)) → P d → P (get_or (build n f) i d)
  build-all P n f i d h hd = go (ltb i n) refl
    where
      go : (b : Bool) → ltb i n ≡ b → P (get_or (build n f) i d)
      go true e = subst P (sym (get_or-build n f i d (ltb-true i n e))) (h i)
      go false e = subst P (sym (get_or-build-out n f i d (ltb-false i n e))) hd

  -- ---- lists end to end
  pub length-collect : (n : ℕ) (f : ℕ → List A) (w : ℕ → ℕ) → ((i : ℕ) → length (f i) ≡ w i) → length (collect n f) ≡ total n w
  unfolding collect total
  length-collect zero f w h = refl
  length-collect (suc n) f w h = length-append (collect n f) (f n) ∙ ap₂ ◌+◌ (length-collect n f w h) (h n)

  -- the list x stands in l at a position
  abbrev pub At : List A → ℕ → List A → Type ℓ
  At l at x = (r : List A) × (drop at l ≡ x ++ r)

  -- a part of a part
  pub at-inside : (l : List A) (at : ℕ) (x : List A) (more : ℕ) (y : List A) → At l at x → ((r : List A) → At (x ++ r) more y) → At l (at + more) y
  at-inside l at x more y (r, e) h = ((h r).0, sym (drop-drop more at l) ∙ ap (drop more) e ∙ (h r).1)

  pub at-append : (x r : List A) (n : ℕ) → length x ≡ n → (y s : List A) → r ≡ y ++ s → At (x ++ r) n y
  at-append x r n e y s q = (s, drop_at x r n e ∙ q)

  pub at_from : (l m : List A) (i j : ℕ) (x : List A) → l ≡ m → i ≡ j → At l i x → At m j x
  at_from l m i j x e q h = subst₂ (λ (l' : List A) (i' : ℕ). At l' i' x) e q h

  -- part i stands behind the parts before it
  pub at-collect : (n : ℕ) (f : ℕ → List A) (w : ℕ → ℕ) → ((i : ℕ) → length (f i) ≡ w i) → (i : ℕ) → i < n → (rest : List A)
      → At (collect n f ++ rest) (total i w) (f i)
  unfolding collect
  at-collect zero f w h i lt rest = absurd (not-suc-le-zero lt)
  at-collect (suc n) f w h i lt rest = go (λ l. at-collect n f w h i l (f n ++ rest)) (eq-or-lt_of_le (le_of_suc-le-suc lt))
    where
      go : (i < n → (r : List A) × (drop (total i w) (collect n f ++ (f n ++ rest)) ≡ f i ++ r)) → (i ≡ n) ⊎ (i < n)
          → (r : List A) × (drop (total i w) ((collect n f ++ f n) ++ rest) ≡ f i ++ r)
      go rec (inl e) = (rest, rw (e, append_assoc) (drop_at (collect n f) (f n ++ rest) (total n w) (length-collect n f w h)))
      go rec (inr l) = ((rec l).0, rw append_assoc (rec l).1)

-- ---- no elements
pub nil-of-length {ℓ} : {A : Type ℓ} (l : List A) → length l ≡ 0 → l ≡ []
nil-of-length [] e = refl
nil-of-length (x ∷ l) e = absurd (omega arith)
