-- Bounds of the loudness offsets, by one test of the whole tables, and of the needs: a need and 32 is a natural number.
-- Assumes nothing.
use mathlib.Core.Path.{◌≡◌, refl}
use mathlib.Core.Bool.{Bool, true, ◌&&◌}
use mathlib.Core.List.{List, [], ◌∷◌}
use Prim.Native.Nat.{ℕ, zero, suc, ◌+◌, ◌-◌, ◌/◌, ◌≤◌, zero-le}
use native.Mathlib.Omega.{arith}
use lib.Dec.{leb, eqb}
use lib.ListN.{get_or}
use lib.IntN.{ℤ, pos, negsuc, ◌+ℤ◌, ◌-ℤ◌}
use lib.Signed.{mag}
use borrow.Author.Tests.{leb-true}
use Rattle.laws.proofs.Cases.{by-test}
use Rattle.laws.proofs.Difference.{sub_cases}
use Rattle.laws.proofs.Tests.{and_left, and_right}
use Rattle.sbc_modes.specs.declared.SbcAllocation.{SbcAllocation}
use Rattle.sbc_modes.specs.declared.SbcAllocation.TheVariants.{Loudness, Snr}
use Rattle.sbc_parameters.specs.declared.SbcParameters.{SbcParameters}
use Rattle.sbc_parameters.specs.Header.{frequency_index}
use Rattle.sbc_tables.specs.Tables.{loudness_offsets4, loudness_offsets8, loudness_offsets}
use Rattle.sbc_need.specs.Need.{loudness_offset, halved, need_by, need}

-- ---- the tables: one test of every entry
abbrev small_row : List ℤ → Bool
small_row [] = true
small_row (z ∷ zs) = leb (mag z) 4 && small_row zs

abbrev small_table : List (List ℤ) → Bool
small_table [] = true
small_table (r ∷ rs) = small_row r && small_table rs

in_row : (zs : List ℤ) → small_row zs ≡ true → (j : ℕ) → mag (get_or zs j (pos 0)) ≤ 4
in_row [] e j = zero-le
in_row (z ∷ zs) e zero = leb-true (mag z) 4 (and_left (leb (mag z) 4) (small_row zs) e)
in_row (z ∷ zs) e (suc j) = in_row zs (and_right (leb (mag z) 4) (small_row zs) e) j

in_table : (rs : List (List ℤ)) → small_table rs ≡ true → (i j : ℕ) → mag (get_or (get_or rs i []) j (pos 0)) ≤ 4
in_table [] e i j = zero-le
in_table (r ∷ rs) e zero j = in_row r (and_left (small_row r) (small_table rs) e) j
in_table (r ∷ rs) e (suc i) j = in_table rs (and_right (small_row r) (small_table rs) e) i j

-- every offset is within 4
pub offset_small : (p : SbcParameters) (subband : ℕ) → mag (loudness_offset p subband) ≤ 4
unfolding loudness_offset loudness_offsets loudness_offsets4 loudness_offsets8
offset_small p subband =
    by-test (λ (t : List (List ℤ)). mag (get_or (get_or t (frequency_index p) []) subband (pos 0)) ≤ 4)
    (eqb p.subbands 4) loudness_offsets4 loudness_offsets8
    (λ e. in_table loudness_offsets4 refl (frequency_index p) subband)
    (λ e. in_table loudness_offsets8 refl (frequency_index p) subband)

-- ---- a need and 32 is a natural number
abbrev pub Raises : ℤ → Type 0
Raises z = (k : ℕ) × (z +ℤ pos 32 ≡ pos k) × (k ≤ 300) × (16 ≤ k)

raises-pos : (n : ℕ) → n ≤ 260 → Raises (pos n)
raises-pos n h = (n + 32, refl, omega arith, omega arith)

raises-neg : (n : ℕ) → n ≤ 4 → Raises (negsuc n)
raises-neg zero h = (31, refl, omega arith, omega arith)
raises-neg (suc zero) h = (30, refl, omega arith, omega arith)
raises-neg (suc (suc zero)) h = (29, refl, omega arith, omega arith)
raises-neg (suc (suc (suc zero))) h = (28, refl, omega arith, omega arith)
raises-neg (suc (suc (suc (suc zero)))) h = (27, refl, omega arith, omega arith)
raises-neg (suc (suc (suc (suc (suc n))))) h = absurd (omega arith)

raises-halved : (f : ℕ) (o : ℤ) → f ≤ 255 → mag o ≤ 4 → Raises (halved (pos f -ℤ o))
raises-halved f (pos zero) h l = raises-pos ((f + 0) / 2) (omega arith)
raises-halved f (pos (suc k)) h l =
    sub_cases (λ z. Raises (halved z)) f (suc k)
    (λ e. raises-neg (suc k - suc f) (omega arith))
    (λ e. raises-pos ((f - suc k) / 2) (omega arith))
raises-halved f (negsuc k) h l = raises-pos ((f + suc k) / 2) (omega arith)

raises-by : (a : SbcAllocation) (o : ℤ) (f : ℕ) → f ≤ 255 → mag o ≤ 4 → Raises (need_by a o f)
raises-by Snr o f h l = raises-pos f (omega arith)
raises-by Loudness o zero h l = raises-neg 4 (omega arith)
raises-by Loudness o (suc f) h l = raises-halved (suc f) o h l

pub need-raises : (p : SbcParameters) (f subband : ℕ) → f ≤ 255 → Raises (need p f subband)
unfolding need
need-raises p f subband h = raises-by p.allocation (loudness_offset p subband) f h (offset_small p subband)
