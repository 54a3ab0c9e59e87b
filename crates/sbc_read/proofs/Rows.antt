-- Rows of eight that are read: their entries, and the rows of the scale factors as a loop over the channels fills them.
-- Assumes nothing.
use Prim.Native.Nat.{ℕ, zero, suc, ◌+◌, ◌*◌, ◌≤◌, ◌<◌}
use mathlib.Core.Path.{◌≡◌, refl, sym, ap, ap₂, ◌∙◌}
use mathlib.Core.Bool.{Bool, true, false}
use mathlib.Core.Logic.{◌≢◌}
use mathlib.Core.List.{List, []}
use native.Mathlib.Nat.{mul_comm}
use native.Mathlib.Omega.{arith}
use lib.Dec.{ltb}
use lib.ListN.{length, get_or, set, replicate}
use borrow.Author.Tests.{ltb-true, ltb-false, lt-ltb, le-ltb}
use Rattle.std.specs.Prelude.{if◌then◌else◌}
use Rattle.laws.specs.Lists.{build, collect}
use Rattle.laws.proofs.Cases.{by-test}
use Rattle.laws.proofs.Lists.{length-build, get_or-build, get_or-build-out, build-all}
use Rattle.laws.proofs.Arrays.{build-set}
use Rattle.bits.specs.Fields.{number_at}
use Rattle.bits.proofs.Windows.{number-at-lt}
use Rattle.sbc_parameters.specs.declared.SbcParameters.{SbcParameters}
use Rattle.sbc_parameters.specs.Sizes.{join_count}
use Rattle.sbc_frame.specs.Layout.{factor_position}
use Rattle.sbc_frame.specs.Arrays.{below, entry}
use Rattle.sbc_read.specs.Reading.{row_at}

-- ---- rows of eight
module _ (bytes : List ℕ) (position width count : ℕ) where
  -- an entry is the number at its place
  pub row_entry : (s : ℕ) → s < count → count ≤ 8
      → entry (row_at bytes position width count) s ≡ number_at bytes (position + s * width) width
  unfolding row_at
  row_entry s h h8 = get_or-build 8 _ s 0 (omega arith) ∙ rw (lt-ltb s count h)

  -- and 0 behind the last
  pub row_rest : (s : ℕ) → count ≤ s → entry (row_at bytes position width count) s ≡ 0
  unfolding row_at
  row_rest s h = go (ltb s 8) refl
    where
      go : (t : Bool) → ltb s 8 ≡ t → entry (build 8 (below count (λ s. number_at bytes (position + s * width) width))) s ≡ 0
      go true e = get_or-build 8 _ s 0 (ltb-true s 8 e) ∙ rw (le-ltb s count h)
      go false e = get_or-build-out 8 _ s 0 (ltb-false s 8 e)

  pub length-row_at : length (row_at bytes position width count) ≡ 8
  unfolding row_at
  length-row_at = length-build 8 _

-- scale factors have four bits
pub row_small : (bytes : List ℕ) (position count s : ℕ) → count ≤ 8 → entry (row_at bytes position 4 count) s ≤ 15
row_small bytes position count s h8 = go (ltb s count) refl
  where
    go : (t : Bool) → ltb s count ≡ t → entry (row_at bytes position 4 count) s ≤ 15
    go true e =
        rw (row_entry bytes position 4 count s (ltb-true s count e) h8) (omega (arith, number-at-lt bytes (position + s * 4) 4))
    go false e = rw (row_rest bytes position 4 count s (ltb-false s count e)) (omega arith)

-- ---- the rows of the scale factors
-- there are at most eight of the channels before the second
pub before_second : (S c : ℕ) → S ≤ 8 → c < 2 → S * c ≤ 8
before_second S zero h k = omega arith
before_second S (suc zero) h k = omega arith
before_second S (suc (suc c)) h k = absurd (omega arith)

module _ (p : SbcParameters) (bytes : List ℕ) where
  -- those of the first n channels, and zeros
  abbrev pub factor_rows : ℕ → List (List ℕ)
  factor_rows n = build 2 (λ c. row_at bytes (factor_position p c 0) 4 (if ltb c n then p.subbands else 0))

  -- no channel yet
  pub factors_none : replicate 2 (replicate 8 0) ≡ factor_rows 0
  unfolding row_at build collect
  factors_none = refl

  -- one channel more
  pub factors_next : (n joins S : ℕ) (rows : List (List ℕ)) (row : List ℕ) → rows ≡ factor_rows n → joins ≡ join_count p → S ≡ p.subbands
      → row ≡ row_at bytes (32 + joins + 4 * S * n) 4 S → set rows n row ≡ factor_rows (n + 1)
  unfolding factor_position
  factors_next n joins S rows row e j h q =
      ap (λ (rs : List (List ℕ)). set rs n row) e
      ∙ build-set 2 _ (λ c. row_at bytes (factor_position p c 0) 4 (if ltb c (n + 1) then p.subbands else 0)) n row []
      (q ∙ ap₂ (λ (k m : ℕ). row_at bytes k 4 m) place (h ∙ rw (lt-ltb n (n + 1) (omega arith))))
      (λ c ne. ap (λ (m : ℕ). row_at bytes (factor_position p c 0) 4 m) (count c ne))
    where
      place : 32 + joins + 4 * S * n ≡ factor_position p n 0
      place = rw (j, h) (omega (arith, mul_comm n (4 * p.subbands)))

      count : (c : ℕ) → c ≢ n → (if ltb c n then p.subbands else 0) ≡ (if ltb c (n + 1) then p.subbands else 0)
      count c ne =
          by-test (λ (z : ℕ). z ≡ (if ltb c (n + 1) then p.subbands else 0)) (ltb c n) p.subbands 0
          (λ t. sym (rw (lt-ltb c (n + 1) (omega (arith, ltb-true c n t)))))
          (λ t. sym (rw (le-ltb c (n + 1) (omega (arith, ltb-false c n t)))))

  module _ (n : ℕ) (rows : List (List ℕ)) (e : rows ≡ factor_rows n) where
    -- they are rows of eight
    pub factors_long : (c : ℕ) → c < 2 → length (get_or rows c []) ≡ 8
    factors_long c h =
        ap (λ (rs : List (List ℕ)). length (get_or rs c [])) e ∙ ap length (get_or-build 2 _ c [] h) ∙ length-row_at bytes _ 4 _

    -- of scale factors
    pub factors_within : p.subbands ≤ 8 → (c s : ℕ) → entry (get_or rows c []) s ≤ 15
    factors_within most c s =
        rw e
        (build-all (λ (row : List ℕ). entry row s ≤ 15) 2 _ c []
        (λ c. row_small bytes (factor_position p c 0) _ s
        (by-test (λ z. z ≤ 8) (ltb c n) p.subbands 0 (λ _. most) (λ _. omega arith))) (omega arith))
