-- Laws of parts of lists: a part taken out, a part that the list may end before, a part replaced in place, and the tail of a slice, lent and come back.
-- Assumes nothing.
use Prim.Native.Nat.{ℕ, zero, suc, ◌+◌, ◌-◌, ◌≤◌, min}
use mathlib.Core.Path.{◌≡◌, sym, ap, ap₂, ◌∙◌}
use mathlib.Core.List.{List, [], ◌∷◌, ◌++◌, append_assoc, append-nil}
use native.Mathlib.Nat.{add-zero, add_assoc}
use native.Mathlib.Numerals.{unary_clauses}
use native.Mathlib.Omega.{arith}
use lib.ListN.{length, take, drop, length-append, length-drop, take-append-drop}
use lib.Seq.{length-take-le, take_all, take-append-le, drop-append-le, take-append-add, drop-append-add, take_at, drop_at, drop-drop, drop-length}
use borrow.Rule.Slice.PartMut.{put_mid, Post-is}

module _ {ℓ} {A : Type ℓ} where
  -- ---- a part of a list that may end before it
  -- a place past the end is as good as the end
  clip-drop : (a : ℕ) (xs : List A) → drop (min a (length xs)) xs ≡ drop a xs
  clip-drop zero xs = simp unary_clauses
  clip-drop (suc a) [] = simp unary_clauses
  clip-drop (suc a) (x ∷ xs) = simp unary_clauses (clip-drop a xs)

  -- more than there are is all of them
  clip-take : (n : ℕ) (xs : List A) → take (min n (length xs)) xs ≡ take n xs
  clip-take zero xs = simp unary_clauses
  clip-take (suc n) [] = simp unary_clauses
  clip-take (suc n) (x ∷ xs) = simp unary_clauses (ap (λ (l : List A). x ∷ l) (clip-take n xs))

  -- n elements from place a on, of which the list may have fewer, as the part between two places
  pub clip : (a n : ℕ) (xs : List A) (from to : ℕ) → from ≡ min a (length xs) → to ≡ min (a + n) (length xs)
      → take (to - from) (drop from xs) ≡ take n (drop a xs)
  clip a n xs from to f t =
      let e : to - from ≡ min n (length (drop a xs)) = omega (arith, length-drop a xs) in
      ap₂ {C = List A} (λ k l. take k l) e (ap (λ (k : ℕ). drop k xs) f ∙ clip-drop a xs) ∙ clip-take n (drop a xs)

  -- ---- a part replaced in place: xs in place of the n elements from `at` on
  abbrev pub put : List A → ℕ → ℕ → List A → List A
  put l at n xs = take at l ++ (xs ++ drop (at + n) l)

  -- a part that lies in front of a seam does not see what is behind it
  pub part-front : (xs ys : List A) (i n : ℕ) → i + n ≤ length xs → take n (drop i (xs ++ ys)) ≡ take n (drop i xs)
  part-front xs ys i n h =
      ap (take n) (drop-append-le i xs ys (omega arith)) ∙ take-append-le n (drop i xs) ys (omega (arith, length-drop i xs))

  -- a part of the first m elements is a part of the list
  pub part-take : (l : List A) (m i n : ℕ) → i + n ≤ m → m ≤ length l → take n (drop i (take m l)) ≡ take n (drop i l)
  part-take l m i n h k =
      sym (part-front (take m l) (drop m l) i n (omega (arith, length-take-le m l k)))
      ∙ ap (λ (t : List A). take n (drop i t)) (take-append-drop m l)

  module _ (l : List A) (at n : ℕ) (xs : List A) (room : at + n ≤ length l) (long : length xs ≡ n) where
    -- the part up to the end of xs, and the list as that part and the rest
    head : length (take at l ++ xs) ≡ at + n
    head = length-append (take at l) xs ∙ omega (arith, length-take-le at l (omega arith))

    seam : put l at n xs ≡ (take at l ++ xs) ++ drop (at + n) l
    seam = sym (append_assoc (take at l) xs (drop (at + n) l))

    -- the list keeps its length
    pub length-put : length (put l at n xs) ≡ length l
    length-put =
        ap length seam ∙ length-append (take at l ++ xs) (drop (at + n) l) ∙ omega (arith, head, length-drop (at + n) l)

    -- what was put is had back
    pub part-put : take n (drop at (put l at n xs)) ≡ xs
    part-put =
        ap (take n) (drop_at (take at l) (xs ++ drop (at + n) l) at (length-take-le at l (omega arith))) ∙ take_at xs (drop (at + n) l) n long

    -- a part in front of it is as it was
    pub before-put : (i m : ℕ) → i + m ≤ at → take m (drop i (put l at n xs)) ≡ take m (drop i l)
    before-put i m h =
        part-front (take at l) (xs ++ drop (at + n) l) i m (omega (arith, length-take-le at l (omega arith)))
        ∙ part-take l at i m h (omega arith)

    -- what is behind it is as it was
    pub behind-put : (i : ℕ) → at + n ≤ i → drop i (put l at n xs) ≡ drop i l
    behind-put i h =
        let e : i ≡ at + n + (i - (at + n)) = omega arith in
        let d : drop (at + n) (put l at n xs) ≡ drop (at + n) l =
        ap (drop (at + n)) seam ∙ drop_at (take at l ++ xs) (drop (at + n) l) (at + n) head in
        ap (λ (k : ℕ). drop k (put l at n xs)) e ∙ sym (drop-drop (i - (at + n)) (at + n) (put l at n xs)) ∙ ap (drop (i - (at + n))) d
        ∙ drop-drop (i - (at + n)) (at + n) l ∙ ap (λ (k : ℕ). drop k l) (sym e)

    -- two parts put one behind the other are put as one
    pub put-put : (m : ℕ) (ys : List A) → put (put l at n xs) (at + n) m ys ≡ put l at (n + m) (xs ++ ys)
    put-put m ys =
        let t : take (at + n) (put l at n xs) ≡ take at l ++ xs =
        ap (take (at + n)) seam ∙ take_at (take at l ++ xs) (drop (at + n) l) (at + n) head in
        let d : drop (at + n + m) (put l at n xs) ≡ drop (at + n + m) l = behind-put (at + n + m) (omega arith) in
        rw (t, d) (simp (append_assoc, add_assoc))

  -- nothing put in place of nothing
  pub put-none : (l : List A) (at : ℕ) → put l at 0 [] ≡ l
  put-none l at = rw add-zero (take-append-drop at l)

  -- what is put into a part of a list is put into the list
  pub put-inside : (xs ys zs : List A) (i at n : ℕ) (ws : List A) → length xs ≡ i → at + n ≤ length ys
      → put (xs ++ (ys ++ zs)) (i + at) n ws ≡ xs ++ (put ys at n ws ++ zs)
  put-inside xs ys zs i at n ws e h =
      let t : take (length xs + at) (xs ++ (ys ++ zs)) ≡ xs ++ take at ys =
      take-append-add xs (ys ++ zs) at ∙ ap (λ (l : List A). xs ++ l) (take-append-le at ys zs (omega arith)) in
      let d : drop (length xs + (at + n)) (xs ++ (ys ++ zs)) ≡ drop (at + n) ys ++ zs =
      drop-append-add xs (ys ++ zs) (at + n) ∙ drop-append-le (at + n) ys zs h in
      rw (← e, add_assoc, t, d) (simp append_assoc)

-- ---- the tail of a slice, lent and come back

-- what is lent is what is left
pub tail-part : {A : Type 0} (a : ℕ) (xs : List A) → take (length xs - a) (drop a xs) ≡ drop a xs
tail-part a xs = take_all (length xs - a) (drop a xs) (omega (arith, length-drop a xs))

-- what comes back stands behind what was not lent
pub put-tail : {A : Type 0} (a : ℕ) (xs ys : List A) → a ≤ length xs → put_mid a (length xs - a) xs ys ≡ take a xs ++ ys
put-tail a xs ys h =
    ap (λ z. take a xs ++ (ys ++ z)) (Post-is a (length xs) xs h ∙ drop-length xs) ∙ ap (λ z. take a xs ++ z) (append-nil ys)
