-- What the code has in arrays: a channel's needs in one of 8, both channels' in one of 16, and rows of the table, cut
-- from a group's bits with zeros behind them.
-- Assumes nothing.
use mathlib.Core.Path.{◌≡◌, refl, sym, ap, ap₂, ◌∙◌}
use mathlib.Core.List.{List, [], ◌∷◌, ◌++◌, map, map-append}
use Prim.Native.Nat.{ℕ, zero, suc, ◌+◌, ◌-◌, ◌*◌, ◌/◌, ◌%◌, ◌≤◌, ◌<◌, min}
use native.Mathlib.Numerals.{add-one}
use native.Mathlib.Omega.{arith}
use lib.ListN.{length, get_or, take, set, replicate, length-append, length-replicate}
use lib.Seq.{take_all, take-suc-set, get_or-take, length-take-le}
use Rattle.laws.specs.Lists.{collect, build}
use lib.IntN.{ℤ}
use Rattle.sbc_modes.specs.declared.SbcChannelMode.TheVariants.{Mono, DualChannel, Stereo, JointStereo}
use Rattle.sbc_parameters.specs.declared.SbcParameters.{SbcParameters}
use Rattle.sbc_need.specs.Need.{need}
use Rattle.sbc_share.specs.Share.{share}
use Rattle.sbc_share.specs.Raised.{lowered}
use Rattle.sbc_share.proofs.Sharing.{length-share}
use Rattle.sbc_allocation.specs.Allocate.{channel_needs, left_first, channel_row, rows_together, allocate_by, allocate, table_row, allocation_table}
use Rattle.sbc_allocation.specs.Entries.{entries}
use Rattle.sbc_allocation.proofs.Rows.{length-channel_needs, length-channel_row}

-- ---- a group of no subbands
nothing : {A : Type 0} (xs : List A) → length xs ≡ 0 → xs ≡ []
nothing [] h = refl
nothing (x ∷ xs) h = absurd (omega arith)

pub needs-none : (p : SbcParameters) (factors : List ℕ) → min p.subbands 8 ≡ 0 → channel_needs p factors ≡ []
needs-none p factors h = nothing (channel_needs p factors) (omega (arith, length-channel_needs p factors))

pub share-none : (bitpool : ℕ) → share [] bitpool ≡ []
share-none bitpool = nothing (share [] bitpool) (length-share [] bitpool)

-- ---- a channel's needs: one more is written
pub needs-step : (p : SbcParameters) (factors needs : List ℕ) (i n : ℕ) → i < length needs → lowered n ≡ need p (get_or factors i 0) i
    → map lowered (take i needs) ≡ build i (λ j. need p (get_or factors j 0) j)
    → map lowered (take (i + 1) (set needs i n)) ≡ build (i + 1) (λ j. need p (get_or factors j 0) j)
unfolding build collect
needs-step p factors needs i n h is before =
    rw (add-one, take-suc-set needs i n h) (map-append lowered (take i needs) (n ∷ []) ∙ ap₂ (λ l z. l ++ (z ∷ [])) before is)

-- ---- arrays that are written out
spread : (n : ℕ) (xs : List ℕ) → length xs ≡ n → xs ≡ entries n (λ i. get_or xs i 0)
spread zero [] h = refl
spread zero (x ∷ xs) h = absurd (omega arith)
spread (suc n) [] h = absurd (omega arith)
spread (suc n) (x ∷ xs) h = ap (λ (l : List ℕ). x ∷ l) (spread n xs (omega arith))

pub first-entries : (xs : List ℕ) → length xs ≡ 16 → entries 8 (λ i. get_or xs i 0) ≡ take 8 xs
first-entries xs long = sym (ap (λ (l : List ℕ). take 8 l) (spread 16 xs long))

pub left-entries : (xs : List ℕ) → length xs ≡ 16 → entries 8 (λ i. get_or xs (2 * i) 0) ≡ channel_row 0 xs
unfolding channel_row
left-entries xs long = sym (ap (λ (l : List ℕ). channel_row 0 l) (spread 16 xs long))

pub right-entries : (xs : List ℕ) → length xs ≡ 16 → entries 8 (λ i. get_or xs (2 * i + 1) 0) ≡ channel_row 1 xs
unfolding channel_row
right-entries xs long = sym (ap (λ (l : List ℕ). channel_row 1 l) (spread 16 xs long))

same-left_first : {a b x y : List ℕ} → a ≡ x → b ≡ y → left_first x y ≡ left_first a b
same-left_first e f = cc

pub both-entries : (ls rs : List ℕ) → length ls ≡ 8 → length rs ≡ 8
    → entries 16 (λ i. get_or (get_or (ls ∷ rs ∷ []) (i % 2) []) (i / 2) 0) ≡ left_first ls rs
unfolding left_first
both-entries ls rs l r = same-left_first (spread 8 ls l) (spread 8 rs r)

-- ---- a row of the table, from the bits of a channel by itself
take-zeros : (k m : ℕ) → k ≤ m → ◌≡◌ {A = List ℕ} (take k (replicate m 0)) (replicate k 0)
take-zeros zero m h = refl
take-zeros (suc k) zero h = absurd (omega arith)
take-zeros (suc k) (suc m) h = ap (λ (l : List ℕ). 0 ∷ l) (take-zeros k m (omega arith))

-- it does not matter how many zeros stand past what is taken
any-zeros : (k : ℕ) (xs : List ℕ) (m n : ℕ) → k ≤ length xs + m → k ≤ length xs + n → take k (xs ++ replicate m 0) ≡ take k (xs ++ replicate n 0)
any-zeros k [] m n h l = take-zeros k m (omega arith) ∙ sym (take-zeros k n (omega arith))
any-zeros zero (x ∷ xs) m n h l = refl
any-zeros (suc k) (x ∷ xs) m n h l = ap (λ (t : List ℕ). x ∷ t) (any-zeros k xs m n (omega arith) (omega arith))

pub row-alone : (bits : List ℕ) (n : ℕ) → length bits ≡ n → n ≤ 8 → take 8 (bits ++ replicate (16 - n) 0) ≡ table_row bits
unfolding table_row
row-alone bits n long h = any-zeros 8 bits (16 - n) 8 (omega arith) (omega arith)

-- ---- a row of the table, from the bits of both channels
channel_row-append : (channel s : ℕ) (xs ys : List ℕ) → length xs ≡ s + s → channel_row channel (xs ++ ys) ≡ channel_row channel xs ++ channel_row channel ys
unfolding channel_row
channel_row-append channel s [] ys h = refl
channel_row-append channel s (l ∷ []) ys h = absurd (omega arith)
channel_row-append channel s (l ∷ r ∷ xs) ys h =
    ap (λ (t : List ℕ). get_or (l ∷ r ∷ []) channel 0 ∷ t) (channel_row-append channel (s - 1) xs ys (omega arith))

channel_row-zeros : (channel m n : ℕ) → n ≡ m + m → channel_row channel (replicate n 0) ≡ replicate m 0
unfolding channel_row
channel_row-zeros channel zero zero h = refl
channel_row-zeros channel zero (suc n) h = absurd (omega arith)
channel_row-zeros channel (suc m) zero h = absurd (omega arith)
channel_row-zeros channel (suc m) (suc zero) h = absurd (omega arith)
channel_row-zeros zero (suc m) (suc (suc n)) h = ap (λ (t : List ℕ). 0 ∷ t) (channel_row-zeros 0 m n (omega arith))
channel_row-zeros (suc zero) (suc m) (suc (suc n)) h = ap (λ (t : List ℕ). 0 ∷ t) (channel_row-zeros 1 m n (omega arith))
channel_row-zeros (suc (suc channel)) (suc m) (suc (suc n)) h = ap (λ (t : List ℕ). 0 ∷ t) (channel_row-zeros (suc (suc channel)) m n (omega arith))

pub row-channel : (channel s n : ℕ) (bits : List ℕ) → n ≡ s + s → length bits ≡ n → s ≤ 8
    → channel_row channel (bits ++ replicate (16 - n) 0) ≡ table_row (channel_row channel bits)
unfolding table_row
row-channel channel s n bits both long eight =
    let row = channel_row channel bits in
    let row-long = length-channel_row channel s bits (long ∙ both) in
    channel_row-append channel s bits (replicate (16 - n) 0) (long ∙ both)
    ∙ ap (λ (t : List ℕ). row ++ t) (channel_row-zeros channel (8 - s) (16 - n) (omega arith))
    ∙ sym (take_all 8 (row ++ replicate (8 - s) 0) (omega (arith, length-append row (replicate (8 - s) 0), length-replicate {A = ℕ} (8 - s) 0)))
    ∙ any-zeros 8 row (8 - s) 8 (omega arith) (omega arith)

-- ---- the needs of both channels
pub take-left_first : (s n : ℕ) (ls rs : List ℕ) → n ≡ s + s → length ls ≡ length rs → take n (left_first ls rs) ≡ left_first (take s ls) (take s rs)
unfolding left_first
take-left_first zero zero ls rs e h = refl
take-left_first zero (suc n) ls rs e h = absurd (omega arith)
take-left_first (suc s) zero ls rs e h = absurd (omega arith)
take-left_first (suc s) (suc zero) ls rs e h = absurd (omega arith)
take-left_first (suc s) (suc (suc n)) [] rs e h = refl
take-left_first (suc s) (suc (suc n)) (l ∷ ls) [] e h = refl
take-left_first (suc s) (suc (suc n)) (l ∷ ls) (r ∷ rs) e h =
    ap (λ (t : List ℕ). l ∷ r ∷ t) (take-left_first s n ls rs (omega arith) (omega arith))

pub map-left_first : {A B : Type 0} (f : A → B) (ls rs : List A) → map f (left_first ls rs) ≡ left_first (map f ls) (map f rs)
unfolding left_first
map-left_first f [] rs = refl
map-left_first f (l ∷ ls) [] = refl
map-left_first f (l ∷ ls) (r ∷ rs) = ap (λ t. f l ∷ f r ∷ t) (map-left_first f ls rs)

abbrev pub AtLeast : ℕ → List ℕ → Type 0
AtLeast m ns = (i : ℕ) → i < length ns → m ≤ get_or ns i 0

pub take-at-least : (m s : ℕ) (ns : List ℕ) → s ≤ length ns → ((i : ℕ) → i < s → m ≤ get_or ns i 0) → AtLeast m (take s ns)
take-at-least m s ns h f i l =
    let inside : i < s = omega (arith, length-take-le s ns h) in
    omega (arith, get_or-take s ns i 0 inside, f i inside)

pub left_first-at-least : (m : ℕ) (ls rs : List ℕ) → AtLeast m ls → AtLeast m rs → AtLeast m (left_first ls rs)
unfolding left_first
left_first-at-least m [] rs f g i h = absurd (omega arith)
left_first-at-least m (l ∷ ls) [] f g i h = absurd (omega arith)
left_first-at-least m (l ∷ ls) (r ∷ rs) f g zero h = f 0 (omega arith)
left_first-at-least m (l ∷ ls) (r ∷ rs) f g (suc zero) h = g 0 (omega arith)
left_first-at-least m (l ∷ ls) (r ∷ rs) f g (suc (suc i)) h =
    left_first-at-least m ls rs (λ j k. f (suc j) (omega arith)) (λ j k. g (suc j) (omega arith)) i (omega arith)

-- ---- the table, by the channel mode
module _ (p : SbcParameters) (factors : List (List ℕ)) where
  abbrev left : List ℤ
  left = channel_needs p (get_or factors 0 [])

  abbrev right : List ℤ
  right = channel_needs p (get_or factors 1 [])

  pub table_mono : p.channel_mode ≡ Mono → allocation_table p factors ≡ table_row (share left p.bitpool) ∷ table_row [] ∷ []
  unfolding allocation_table allocate allocate_by
  table_mono e = rw e

  pub table_dual : p.channel_mode ≡ DualChannel
      → allocation_table p factors ≡ table_row (share left p.bitpool) ∷ table_row (share right p.bitpool) ∷ []
  unfolding allocation_table allocate allocate_by
  table_dual e = rw e

  pub table_stereo : p.channel_mode ≡ Stereo → allocation_table p factors ≡ map table_row (rows_together p.bitpool left right)
  unfolding allocation_table allocate allocate_by rows_together
  table_stereo e = rw e

  pub table_joint : p.channel_mode ≡ JointStereo → allocation_table p factors ≡ map table_row (rows_together p.bitpool left right)
  unfolding allocation_table allocate allocate_by rows_together
  table_joint e = rw e

pub row_none : table_row [] ≡ replicate 8 0
unfolding table_row
row_none = refl

pub ruleset table_cases = (table_mono, table_dual, table_stereo, table_joint, row_none)
