-- What is written of a list of fields: nothing, one field more, and how many bits that are.
-- Assumes nothing.
use Prim.Native.Nat.{ℕ, zero, suc, ◌+◌, ◌*◌, ◌≤◌, ◌<◌}
use mathlib.Core.Path.{◌≡◌, refl, sym, ap, ap₂, ◌∙◌}
use mathlib.Core.Bool.{Bool}
use mathlib.Core.List.{List, [], ◌∷◌, ◌++◌, append_assoc, append-nil}
use native.Mathlib.Numerals.{add-one}
use native.Mathlib.Omega.{arith}
use lib.IntN.{ℤ}
use lib.ListN.{length, take, get_or, length-append}
use lib.Seq.{length-take-le}
use denote.Ref.{at_last}
use Rattle.std.proofs.lemmas.List.{get_or-take}
use Rattle.laws.specs.Lists.{collect, total}
use Rattle.laws.specs.Bits.{bits_of}
use Rattle.laws.proofs.Lists.{total-const, length-collect}
use Rattle.laws.proofs.Bits.{length-bits_of}
use Rattle.sbc_frame.specs.Arrays.{entry, rows_of}
use Rattle.sbc_frame.specs.declared.blocks.Blocks.{Blocks}
use Rattle.sbc_write.specs.declared.BodyWriter.{BodyWriter}
use Rattle.sbc_write.specs.Writing.{bits_in, count_in, Wrote, row_bits, value_bits_at, block_bits_of, value_bits_of, values_width}
use Rattle.sbc_write.proofs.Flushing.{behind_more}

-- ---- what is written
-- nothing
pub wrote_none : (w : BodyWriter) → Wrote w w []
wrote_none w = record {
  same_bytes = refl;
  same_length = refl;
  written = sym (append-nil (bits_in w));
  counted = omega arith;
  behind = refl;
}

-- and more
pub wrote_more : (a b c : BodyWriter) (xs ys : List Bool) → Wrote a b xs → Wrote b c ys → Wrote a c (xs ++ ys)
wrote_more a b c xs ys h k = record {
  same_bytes = k.same_bytes ∙ ap (λ r. at_last r c.bytes.now) h.same_bytes;
  same_length = k.same_length ∙ h.same_length;
  written = k.written ∙ ap (λ (l : List Bool). l ++ ys) h.written ∙ append_assoc (bits_in a) xs ys;
  counted = omega (arith, h.counted, k.counted, length-append xs ys);
  behind =
      behind_more b.writer.at c.writer.at a.bytes.now b.bytes.now c.bytes.now
      (omega (arith, k.counted, c.writer.held_within)) h.behind k.behind;
}

-- one field more
pub one_more : (a b c : BodyWriter) (n : ℕ) (f : ℕ → List Bool) → Wrote a b (collect n f) → Wrote b c (f n) → Wrote a c (collect (n + 1) f)
unfolding collect
one_more a b c n f h k = rw add-one (wrote_more a b c (collect n f) (f n) h k)

-- ---- how far it takes a writer
-- fields of one width
length-same : (n : ℕ) (f : ℕ → List Bool) (k : ℕ) → ((i : ℕ) → length (f i) ≡ k) → length (collect n f) ≡ n * k
length-same n f k h = length-collect n f (λ _. k) h ∙ total-const n k

-- the values of n subbands
length-values : (n : ℕ) (row : List ℤ) (widths factors : List ℕ)
    → length (collect n (value_bits_at row widths factors)) ≡ total n (entry widths)
length-values n row widths factors = length-collect n _ (entry widths) (λ s. length-bits_of (entry widths s) _)

-- those of a block
length-block : (row : List ℤ) (widths factors : List ℕ) → length (block_bits_of row widths factors) ≡ total 8 (entry widths)
unfolding block_bits_of
length-block row widths factors = length-values 8 row widths factors

module _ (a b : BodyWriter) where
  pub counted-field : (n v : ℕ) → Wrote a b (bits_of n v) → count_in b ≡ count_in a + n
  counted-field n v h = omega (arith, h.counted, length-bits_of n v)

  pub counted-row : (row : List ℕ) (width n : ℕ) → Wrote a b (row_bits row width n) → count_in b ≡ count_in a + n * width
  unfolding row_bits
  counted-row row width n h = omega (arith, h.counted, length-same n _ width (λ s. length-bits_of width (entry row s)))

  pub counted-values : (row : List ℤ) (widths factors : List ℕ) (n : ℕ) → Wrote a b (collect n (value_bits_at row widths factors))
      → count_in b ≡ count_in a + total n (entry widths)
  counted-values row widths factors n h = omega (arith, h.counted, length-values n row widths factors)

  pub counted-block : (row : List ℤ) (widths factors : List ℕ) → Wrote a b (block_bits_of row widths factors)
      → count_in b ≡ count_in a + total 8 (entry widths)
  counted-block row widths factors h = omega (arith, h.counted, length-block row widths factors)

  pub counted-blocks : (samples : List Blocks) (widths factors : List (List ℕ)) (n : ℕ)
      → Wrote a b (value_bits_of samples widths factors n) → count_in b ≡ count_in a + n * values_width widths
  unfolding value_bits_of collect
  counted-blocks samples widths factors n h =
      let row : ℕ → ℕ → List Bool =
      λ b c. block_bits_of (get_or (rows_of samples c) b []) (get_or widths c []) (get_or factors c []) in
      let one : (b : ℕ) → length (collect 2 (row b)) ≡ values_width widths =
      λ b. length-append (row b 0) (row b 1)
      ∙ ap₂ {C = ℕ} ◌+◌ (length-block _ (get_or widths 0 []) _) (length-block _ (get_or widths 1 []) _) in
      omega (arith, h.counted, length-same n (λ b. collect 2 (row b)) (values_width widths) one)

-- ---- equal fields
pub collect-ext : (n : ℕ) (f g : ℕ → List Bool) → ((i : ℕ) → i < n → f i ≡ g i) → collect n f ≡ collect n g
unfolding collect
collect-ext zero f g h = refl
collect-ext (suc n) f g h = ap₂ {C = List Bool} ◌++◌ (collect-ext n f g (λ i lt. h i (omega arith))) (h n (omega arith))

-- a row's front has the row's first numbers
pub row-front : (row : List ℕ) (width n : ℕ) → n ≤ length row → row_bits (take n row) width (length (take n row)) ≡ row_bits row width n
unfolding row_bits
row-front row width n h = rw length-take-le (collect-ext n _ _ (λ s lt. ap (bits_of width) (get_or-take n row s 0 lt)))

-- the values of both channels from arrays of two are those from the lists
pub value-bits_pair : (samples : List Blocks) (widths factors : List (List ℕ)) (n : ℕ)
    → value_bits_of samples (get_or widths 0 [] ∷ get_or widths 1 [] ∷ []) (get_or factors 0 [] ∷ get_or factors 1 [] ∷ []) n
    ≡ value_bits_of samples widths factors n
unfolding value_bits_of collect
value-bits_pair samples widths factors n = refl
