-- The rows of the allocation: one for each channel, with an entry for each subband; two of eight in the table that the code gives back. No
-- entry is above 16, for any set and any factors. In dual channel a channel's row depends on that channel's factors alone.
-- Assumes nothing.
use mathlib.Core.Path.{◌≡◌, refl, ◌∙◌}
use mathlib.Core.List.{List, [], ◌∷◌, ◌++◌}
use Prim.Native.Nat.{ℕ, zero, suc, ◌+◌, ◌-◌, ◌≤◌, ◌<◌, min}
use native.Mathlib.Omega.{arith}
use lib.ListN.{length, get_or, take, replicate}
use lib.Seq.{get_or-take}
use lib.IntN.{ℤ}
use Rattle.laws.proofs.Lists.{length-build}
use Rattle.sbc_modes.specs.declared.SbcChannelMode.{SbcChannelMode}
use Rattle.sbc_modes.specs.declared.SbcChannelMode.TheVariants.{Mono, DualChannel, Stereo, JointStereo}
use Rattle.sbc_parameters.specs.declared.SbcParameters.{SbcParameters}
use Rattle.sbc_modes.specs.Modes.{channels_of}
use Rattle.sbc_parameters.specs.Parameters.{channels}
use Rattle.sbc_need.specs.Need.{need}
use Rattle.sbc_share.specs.Share.{share}
use Rattle.sbc_allocation.specs.Allocate.{channel_needs, left_first, channel_row, rows_together, allocate_by, allocate, table_row, allocation_table}
use Rattle.sbc_share.proofs.Sharing.{share-16, length-share}

-- ---- lengths
pub length-channel_needs : (p : SbcParameters) (factors : List ℕ) → length (channel_needs p factors) ≡ min p.subbands (length factors)
unfolding channel_needs
length-channel_needs p factors = length-build (min p.subbands (length factors)) (λ i. need p (get_or factors i 0) i)

pub length-left_first : {A : Type 0} (s : ℕ) (ls rs : List A) → length ls ≡ s → length rs ≡ s → length (left_first ls rs) ≡ s + s
unfolding left_first
length-left_first s [] rs l r = omega arith
length-left_first s (x ∷ ls) [] l r = omega arith
length-left_first s (x ∷ ls) (y ∷ rs) l r = omega (arith, length-left_first (s - 1) ls rs (omega arith) (omega arith))

pub length-channel_row : (channel s : ℕ) (bits : List ℕ) → length bits ≡ s + s → length (channel_row channel bits) ≡ s
unfolding channel_row
length-channel_row channel s [] h = omega arith
length-channel_row channel s (l ∷ []) h = omega arith
length-channel_row channel s (l ∷ r ∷ bits) h = omega (arith, length-channel_row channel (s - 1) bits (omega arith))

module _ (bitpool s : ℕ) (left right : List ℤ) where
  length-by : (mode : SbcChannelMode) → length (allocate_by mode bitpool left right) ≡ channels_of mode
  unfolding allocate_by rows_together
  length-by Mono = refl
  length-by DualChannel = refl
  length-by Stereo = refl
  length-by JointStereo = refl

  together-long : (c : ℕ) → c < 2 → length left ≡ s → length right ≡ s → length (get_or (rows_together bitpool left right) c []) ≡ s
  unfolding rows_together
  together-long zero h l r =
      length-channel_row 0 s (share (left_first left right) bitpool) (length-share (left_first left right) bitpool ∙ length-left_first s left right l r)
  together-long (suc zero) h l r =
      length-channel_row 1 s (share (left_first left right) bitpool) (length-share (left_first left right) bitpool ∙ length-left_first s left right l r)
  together-long (suc (suc c)) h l r = absurd (omega arith)

  rows-by : (mode : SbcChannelMode) → (0 < channels_of mode → length left ≡ s) → (1 < channels_of mode → length right ≡ s)
      → (c : ℕ) → c < channels_of mode → length (get_or (allocate_by mode bitpool left right) c []) ≡ s
  unfolding allocate_by
  rows-by Mono l r zero h = length-share left bitpool ∙ l h
  rows-by Mono l r (suc c) h = absurd (omega arith)
  rows-by DualChannel l r zero h = length-share left bitpool ∙ l h
  rows-by DualChannel l r (suc zero) h = length-share right bitpool ∙ r h
  rows-by DualChannel l r (suc (suc c)) h = absurd (omega arith)
  rows-by Stereo l r c h = together-long c h (l (omega arith)) (r (omega arith))
  rows-by JointStereo l r c h = together-long c h (l (omega arith)) (r (omega arith))

-- one row for each channel of the set
pub length-allocate : (p : SbcParameters) (factors : List (List ℕ)) → length (allocate p factors) ≡ channels p
unfolding allocate
length-allocate p factors =
    length-by p.bitpool 0 (channel_needs p (get_or factors 0 [])) (channel_needs p (get_or factors 1 [])) p.channel_mode

-- one entry for each subband
pub length-row : (p : SbcParameters) (factors : List (List ℕ)) → ((c : ℕ) → c < channels p → p.subbands ≤ length (get_or factors c []))
    → (c : ℕ) → c < channels p → length (get_or (allocate p factors) c []) ≡ p.subbands
unfolding allocate
length-row p factors enough =
    rows-by p.bitpool p.subbands (channel_needs p (get_or factors 0 [])) (channel_needs p (get_or factors 1 [])) p.channel_mode
    (λ h. omega (arith, length-channel_needs p (get_or factors 0 []), enough 0 h))
    (λ h. omega (arith, length-channel_needs p (get_or factors 1 []), enough 1 h))

-- ---- the table's entries are those of the rows
padded-at : (bits : List ℕ) (n i : ℕ) → get_or (bits ++ replicate n 0) i 0 ≡ get_or bits i 0
padded-at [] zero i = refl
padded-at [] (suc n) zero = refl
padded-at [] (suc n) (suc i) = padded-at [] n i
padded-at (b ∷ bits) n zero = refl
padded-at (b ∷ bits) n (suc i) = padded-at bits n i

pub table_at : (p : SbcParameters) (factors : List (List ℕ)) (c i : ℕ) → c < 2 → i < 8
    → get_or (get_or (allocation_table p factors) c []) i 0 ≡ get_or (get_or (allocate p factors) c []) i 0
unfolding allocation_table table_row
table_at p factors zero i h l =
    let bits = get_or (allocate p factors) 0 [] in
    get_or-take 8 (bits ++ replicate 8 0) i 0 l ∙ padded-at bits 8 i
table_at p factors (suc zero) i h l =
    let bits = get_or (allocate p factors) 1 [] in
    get_or-take 8 (bits ++ replicate 8 0) i 0 l ∙ padded-at bits 8 i
table_at p factors (suc (suc c)) i h l = absurd (omega arith)

-- ---- no entry is above 16
abbrev Small : List ℕ → Type 0
Small xs = (i : ℕ) → get_or xs i 0 ≤ 16

cut_small : (n : ℕ) (bits : List ℕ) → Small bits → Small (take n bits)
cut_small zero bits f i = omega arith
cut_small (suc n) [] f i = omega arith
cut_small (suc n) (b ∷ bits) f zero = f 0
cut_small (suc n) (b ∷ bits) f (suc i) = cut_small n bits (λ j. f (suc j)) i

table_row-small : (bits : List ℕ) → Small bits → Small (table_row bits)
unfolding table_row
table_row-small bits f = cut_small 8 (bits ++ replicate 8 0) (λ i. omega (arith, padded-at bits 8 i, f i))

pair_small : (channel l r : ℕ) → l ≤ 16 → r ≤ 16 → get_or (l ∷ r ∷ []) channel 0 ≤ 16
pair_small zero l r a b = a
pair_small (suc zero) l r a b = b
pair_small (suc (suc channel)) l r a b = omega arith

channel_row-small : (channel : ℕ) (bits : List ℕ) → Small bits → Small (channel_row channel bits)
unfolding channel_row
channel_row-small channel [] f i = omega arith
channel_row-small channel (l ∷ []) f i = omega arith
channel_row-small channel (l ∷ r ∷ bits) f zero = pair_small channel l r (f 0) (f 1)
channel_row-small channel (l ∷ r ∷ bits) f (suc i) = channel_row-small channel bits (λ j. f (suc (suc j))) i

two-small : (a b : List ℕ) → Small a → Small b → (channel : ℕ) → Small (get_or (a ∷ b ∷ []) channel [])
two-small a b f g zero = f
two-small a b f g (suc zero) = g
two-small a b f g (suc (suc channel)) = λ i. omega arith

module _ (bitpool : ℕ) (left right : List ℤ) where
  together-small : (channel : ℕ) → Small (get_or (rows_together bitpool left right) channel [])
  unfolding rows_together
  together-small =
      let bits = share (left_first left right) bitpool in
      let small = share-16 (left_first left right) bitpool in
      two-small (channel_row 0 bits) (channel_row 1 bits) (channel_row-small 0 bits small) (channel_row-small 1 bits small)

  small_by : (mode : SbcChannelMode) (channel : ℕ) → Small (get_or (allocate_by mode bitpool left right) channel [])
  unfolding allocate_by
  small_by Mono zero = share-16 left bitpool
  small_by Mono (suc channel) = λ i. omega arith
  small_by DualChannel channel = two-small (share left bitpool) (share right bitpool) (share-16 left bitpool) (share-16 right bitpool) channel
  small_by Stereo channel = together-small channel
  small_by JointStereo channel = together-small channel

pub allocate-16 : (p : SbcParameters) (factors : List (List ℕ)) (channel subband : ℕ) → get_or (get_or (allocate p factors) channel []) subband 0 ≤ 16
unfolding allocate
allocate-16 p factors =
    small_by p.bitpool (channel_needs p (get_or factors 0 [])) (channel_needs p (get_or factors 1 [])) p.channel_mode

pub table-16 : (p : SbcParameters) (factors : List (List ℕ)) (channel subband : ℕ)
    → get_or (get_or (allocation_table p factors) channel []) subband 0 ≤ 16
unfolding allocation_table
table-16 p factors =
    two-small (table_row (get_or (allocate p factors) 0 [])) (table_row (get_or (allocate p factors) 1 []))
    (table_row-small (get_or (allocate p factors) 0 []) (allocate-16 p factors 0))
    (table_row-small (get_or (allocate p factors) 1 []) (allocate-16 p factors 1))

-- ---- in dual channel a channel's row depends on that channel's factors alone
pub dual-row : (p : SbcParameters) (factors factors' : List (List ℕ)) → p.channel_mode ≡ DualChannel
    → (c : ℕ) → get_or factors c [] ≡ get_or factors' c [] → get_or (allocate p factors) c [] ≡ get_or (allocate p factors') c []
unfolding allocate allocate_by
dual-row p factors factors' dual zero e = rw (dual, e)
dual-row p factors factors' dual (suc zero) e = rw (dual, e)
dual-row p factors factors' dual (suc (suc c)) e = rw dual
