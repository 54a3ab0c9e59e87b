-- The widths of the quantized values: what the share theorem of the allocation says of them, as sums by index.
-- Assumes nothing.
use Prim.Native.Nat.{ℕ, zero, suc, ◌+◌, ◌≤◌, ◌<◌, min}
use mathlib.Core.Logic.{◌⊎◌, inl, inr}
use native.Mathlib.Nat.{le_of_suc-le-suc, eq-or-lt_of_le}
use mathlib.Core.Path.{◌≡◌, refl, sym, ap, ap₂, ◌∙◌}
use mathlib.Core.Bool.{Bool, true, false, false≢true}
use mathlib.Core.List.Memᴰ
use mathlib.Core.List.{List, [], ◌∷◌, ◌++◌, map, map-append}
use native.Mathlib.Omega.{arith}
use lib.Dec.{ltb}
use lib.ListN.{length, get_or, get_or-eq_default}
use lib.IntN.{ℤ}
use borrow.Author.Tests.{ltb-true, ltb-false}
use Rattle.laws.specs.Lists.{collect, build, total}
use Rattle.laws.proofs.Lists.{total-const, total_ext, build-ext}
use Rattle.sbc_modes.specs.declared.SbcChannelMode.{SbcChannelMode}
use Rattle.sbc_modes.specs.declared.SbcChannelMode.TheVariants.{Mono, DualChannel, Stereo, JointStereo}
use Rattle.sbc_parameters.specs.declared.SbcParameters.{SbcParameters}
use Rattle.sbc_modes.specs.Modes.{channels_of, separate}
use Rattle.sbc_parameters.specs.Parameters.{channels, accepted}
use Rattle.sbc_parameters.specs.Sizes.{block_bits}
use Rattle.sbc_parameters.proofs.Accepted.{channels-range, ranges}
use Rattle.sbc_need.specs.Need.{need}
use Rattle.sbc_share.specs.Share.{sum}
use Rattle.sbc_allocation.specs.Allocate.{channel_needs, allocate_by, allocate, allocation_table}
use Rattle.sbc_allocation.specs.Shares.{◌∈◌, Place, places_of, groups_by, groups, entry_at}
use Rattle.sbc_allocation.proofs.Rows.{length-allocate, length-row, table_at}
use Rattle.sbc_allocation.proofs.Groups.{sum-append, shares-fair}
use Rattle.sbc_frame.specs.Fields.{width_at, channel_width}

-- ---- the places of a group, by index
sum-places : (table : List (List ℕ)) (S c : ℕ) → sum (map (entry_at table) (places_of S c)) ≡ total S (λ s. get_or (get_or table c []) s 0)
unfolding places_of build collect total sum entry_at
sum-places table zero c = refl
sum-places table (suc S) c =
    let last : Place = record { channel = c; subband = S } in
    ap sum (map-append (entry_at table) (places_of S c) (last ∷ []))
    ∙ sum-append (map (entry_at table) (places_of S c)) (entry_at table last ∷ [])
    ∙ omega (arith, sum-places table S c)

-- a channel by itself is a group where the modes say so, and both are one where they do not
alone : (mode : SbcChannelMode) (S c : ℕ) → separate mode ≡ true → c < channels_of mode → places_of S c ∈ groups_by mode S
unfolding groups_by
alone Mono S zero e h = Memᴰ.head refl
alone Mono S (suc c) e h = absurd (omega arith)
alone DualChannel S zero e h = Memᴰ.head refl
alone DualChannel S (suc zero) e h = Memᴰ.tail (Memᴰ.head refl)
alone DualChannel S (suc (suc c)) e h = absurd (omega arith)
alone Stereo S c e h = absurd (false≢true e)
alone JointStereo S c e h = absurd (false≢true e)

together : (mode : SbcChannelMode) (S : ℕ) → separate mode ≡ false
    → (channels_of mode ≡ 2) × ((places_of S 0 ++ places_of S 1) ∈ groups_by mode S)
unfolding groups_by
together Mono S e = absurd (false≢true (sym e))
together DualChannel S e = absurd (false≢true (sym e))
together Stereo S e = (refl, Memᴰ.head refl)
together JointStereo S e = (refl, Memᴰ.head refl)

two : (w : ℕ → ℕ) → total 2 w ≡ w 0 + w 1
unfolding total
two w = omega arith

-- ---- an accepted set
-- each channel has at least one scale factor a subband
abbrev pub Enough : SbcParameters → List (List ℕ) → Type 0
Enough p factors = (c : ℕ) → c < channels p → p.subbands ≤ length (get_or factors c [])

-- two rows of eight do
pub rows-enough : (p : SbcParameters) → accepted p ≡ true → (rows : List (List ℕ)) → ((c : ℕ) → c < 2 → length (get_or rows c []) ≡ 8)
    → Enough p rows
rows-enough p a rows long c hc = omega (arith, long c (omega (arith, (channels-range p).1)), (ranges p a).subbands-high)

module _ (p : SbcParameters) (factors : List (List ℕ)) (a : accepted p ≡ true) (enough : Enough p factors) where
  row-sum : (c : ℕ) → sum (map (entry_at (allocate p factors)) (places_of p.subbands c)) ≡ channel_width p factors c
  unfolding channel_width width_at
  row-sum c = sum-places (allocate p factors) p.subbands c

  -- in mono and dual channel the values of each channel have bitpool bits a block
  pub channel-width : (c : ℕ) → separate p.channel_mode ≡ true → c < channels p → channel_width p factors c ≡ p.bitpool
  unfolding groups
  channel-width c e h =
      sym (row-sum c)
      ∙ (shares-fair p factors a enough (places_of p.subbands c) (alone p.channel_mode p.subbands c e h)).whole

  -- in stereo and joint stereo those of both channels have
  both-width : separate p.channel_mode ≡ false → total (channels p) (channel_width p factors) ≡ p.bitpool
  unfolding groups
  both-width e =
      let rows : ℕ → List ℕ = λ c. map (entry_at (allocate p factors)) (places_of p.subbands c) in
      let g = together p.channel_mode p.subbands e in
      let whole = (shares-fair p factors a enough (places_of p.subbands 0 ++ places_of p.subbands 1) g.1).whole in
      ap (λ (n : ℕ). total n (channel_width p factors)) g.0 ∙ two (channel_width p factors)
      ∙ sym (ap₂ ◌+◌ (row-sum 0) (row-sum 1)) ∙ sym (sum-append (rows 0) (rows 1))
      ∙ sym (ap sum (map-append (entry_at (allocate p factors)) (places_of p.subbands 0) (places_of p.subbands 1))) ∙ whole

  -- the values of a block have the bits that the sizes count
  pub block-width : total (channels p) (channel_width p factors) ≡ block_bits p
  unfolding block_bits
  block-width = go (separate p.channel_mode) refl
    where
      go : (t : Bool) → separate p.channel_mode ≡ t → total (channels p) (channel_width p factors) ≡ block_bits p
      go true e =
          rw e
          (total_ext (channels p) (channel_width p factors) (λ _. p.bitpool) (λ c h. channel-width c e h)
          ∙ total-const (channels p) p.bitpool)
      go false e = rw e (both-width e)

-- ---- the table that the code has: rows of eight, 0 where the set has no subband or no channel
-- a sum whose terms from n on are 0
pub total-rest : (n m : ℕ) (w : ℕ → ℕ) → n ≤ m → ((i : ℕ) → n ≤ i → i < m → w i ≡ 0) → total m w ≡ total n w
unfolding total
total-rest n zero w h z = let e : n ≡ 0 = omega arith in rw e
total-rest n (suc m) w h z = go (eq-or-lt_of_le h) (λ l. total-rest n m w l (λ i a b. z i a (omega arith)))
  where
    go : (n ≡ suc m) ⊎ (n < suc m) → (n ≤ m → total m w ≡ total n w) → total m w + w m ≡ total n w
    go (inl e) rec = rw e
    go (inr l) rec = omega (arith, rec (le_of_suc-le-suc l), z m (le_of_suc-le-suc l) (omega arith))

-- the allocation looks at the factors of the channels that there are
by-needs : (mode : SbcChannelMode) (bitpool : ℕ) (l l' r r' : List ℤ) → l ≡ l' → (1 < channels_of mode → r ≡ r')
    → allocate_by mode bitpool l r ≡ allocate_by mode bitpool l' r'
unfolding allocate_by
by-needs Mono bitpool l l' r r' e f = rw e
by-needs DualChannel bitpool l l' r r' e f = rw (e, f (omega arith))
by-needs Stereo bitpool l l' r r' e f = rw (e, f (omega arith))
by-needs JointStereo bitpool l l' r r' e f = rw (e, f (omega arith))

-- and there at those of the subbands that there are
pub allocate-agree : (p : SbcParameters) (factors factors' : List (List ℕ)) → Enough p factors → Enough p factors'
    → ((c s : ℕ) → c < channels p → s < p.subbands → get_or (get_or factors c []) s 0 ≡ get_or (get_or factors' c []) s 0)
    → allocate p factors ≡ allocate p factors'
unfolding allocate channel_needs
allocate-agree p factors factors' enough enough' same =
    by-needs p.channel_mode p.bitpool _ _ _ _ (needs 0 (channels-range p).0) (needs 1)
  where
    needs : (c : ℕ) → c < channels p → channel_needs p (get_or factors c []) ≡ channel_needs p (get_or factors' c [])
    needs c hc =
        let n : min p.subbands (length (get_or factors c [])) ≡ p.subbands = omega (arith, enough c hc) in
        let k : min p.subbands (length (get_or factors' c [])) ≡ p.subbands = omega (arith, enough' c hc) in
        rw (n, k) (build-ext p.subbands _ _ (λ s hs. ap (λ f. need p f s) (same c s hc hs)))

module _ (p : SbcParameters) (a : accepted p ≡ true) (factors : List (List ℕ)) (enough : Enough p factors) where
  abbrev pub table_width : ℕ → ℕ → ℕ
  table_width c s = get_or (get_or (allocation_table p factors) c []) s 0

  -- an entry of the table is the width of a value
  pub table-width : (c s : ℕ) → c < 2 → s < 8 → table_width c s ≡ width_at p factors c s
  unfolding width_at
  table-width c s hc hs = table_at p factors c s hc hs

  -- 0 for a subband that there is not
  pub width-none : (c s : ℕ) → c < channels p → p.subbands ≤ s → width_at p factors c s ≡ 0
  unfolding width_at
  width-none c s hc hs = get_or-eq_default (get_or (allocate p factors) c []) 0 (omega (arith, length-row p factors enough c hc))

  -- and for a channel that there is not
  pub width-absent : (c s : ℕ) → channels p ≤ c → width_at p factors c s ≡ 0
  unfolding width_at
  width-absent c s hc =
      ap (λ (row : List ℕ). get_or row s 0) (get_or-eq_default (allocate p factors) [] (omega (arith, length-allocate p factors)))

  pub row-width : (c : ℕ) → c < channels p → total 8 (table_width c) ≡ channel_width p factors c
  unfolding channel_width
  row-width c hc =
      let two : c < 2 = omega (arith, (channels-range p).1) in
      let most = (ranges p a).subbands-high in
      total-rest p.subbands 8 (table_width c) most (λ s hs h8. table-width c s two h8 ∙ width-none c s hc hs)
      ∙ total_ext p.subbands _ _ (λ s hs. table-width c s two (omega arith))

  absent-width : channels p ≤ 1 → total 8 (table_width 1) ≡ 0
  unfolding total
  absent-width h =
      total-rest 0 8 (table_width 1) (omega arith) (λ s _ h8. table-width 1 s (omega arith) h8 ∙ width-absent 1 s h)

  -- the rows of both channels have the bits of a block
  pub rows-width : total 8 (table_width 0) + total 8 (table_width 1) ≡ block_bits p
  unfolding total
  rows-width = go (ltb 1 (channels p)) refl
    where
      whole : total (channels p) (channel_width p factors) ≡ block_bits p
      whole = block-width p factors a enough

      go : (t : Bool) → ltb 1 (channels p) ≡ t → total 8 (table_width 0) + total 8 (table_width 1) ≡ block_bits p
      go true e =
          let h = ltb-true 1 (channels p) e in
          let two : channels p ≡ 2 = omega (arith, (channels-range p).1) in
          let sum : 0 + channel_width p factors 0 + channel_width p factors 1 ≡ block_bits p =
          sym (ap (λ n. total n (channel_width p factors)) two) ∙ whole in
          omega (arith, sum, row-width 0 (omega arith), row-width 1 h)
      go false e =
          let h = ltb-false 1 (channels p) e in
          let one : channels p ≡ 1 = omega (arith, (channels-range p).0) in
          let sum : 0 + channel_width p factors 0 ≡ block_bits p = sym (ap (λ n. total n (channel_width p factors)) one) ∙ whole in
          omega (arith, sum, row-width 0 (omega arith), absent-width h)
