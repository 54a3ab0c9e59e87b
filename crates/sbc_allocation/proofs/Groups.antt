-- The share theorem, specs/Shares.antt. A group's places are the entries of one list of needs and of the list of its
-- shares (`Spot`), of which proofs/Sharing.antt proves what the theorem says of places. In stereo and joint stereo the
-- place of subband i of channel c is entry 2 * i + c.
-- Assumes nothing.
use mathlib.Core.Path.{◌≡◌, refl, sym, ap, ap₂, ◌∙◌, subst, subst₂}
use mathlib.Core.Bool.{true}
use mathlib.Core.Logic.{◌⊎◌, inl, inr, ⊎_elim}
use mathlib.Core.List.Memᴰ
use mathlib.Core.List.{List, [], ◌∷◌, ◌++◌, map, map-append}
use Prim.Native.Nat.{ℕ, zero, suc, ◌+◌, ◌-◌, ◌*◌, ◌≤◌, ◌<◌, min}
use native.Mathlib.Omega.{arith}
use lib.Dec.{lit<}
use lib.ListN.{length, get_or}
use lib.IntN.{ℤ, pos}
use lib.Signed.{◌<ℤ◌}
use Rattle.laws.specs.Lists.{collect, build}
use Rattle.laws.proofs.Lists.{get_or-build, build-is}
use Rattle.sbc_modes.specs.declared.SbcChannelMode.{SbcChannelMode}
use Rattle.sbc_modes.specs.declared.SbcChannelMode.TheVariants.{Mono, DualChannel, Stereo, JointStereo}
use Rattle.sbc_parameters.specs.declared.SbcParameters.{SbcParameters}
use Rattle.sbc_parameters.specs.Parameters.{channels, maximum_bitpool, accepted}
use Rattle.sbc_parameters.proofs.Accepted.{ranges}
use Rattle.sbc_need.specs.Need.{need}
use Rattle.sbc_share.specs.Share.{sum, share}
use Rattle.sbc_allocation.specs.Allocate.{channel_needs, left_first, channel_row, rows_together, allocate_by, allocate, allocation_table}
use Rattle.sbc_allocation.specs.Shares.{◌∈◌, Place, places_of, groups_by, groups, entry_at, need_at, Fair, SharesFair}
use Rattle.sbc_share.proofs.Sharing.{ByNeed, share-by-need}
use Rattle.sbc_allocation.proofs.Rows.{length-channel_needs, length-left_first, length-channel_row, allocate-16, table_at}

-- ---- the places of a channel
abbrev place : ℕ → ℕ → Place
place c i = record { channel = c; subband = i }

in-places : (S c : ℕ) (x : Place) → x ∈ places_of S c → (x.channel ≡ c) × (x.subband < S)
unfolding places_of build collect
in-places zero c x m = absurd (Memᴰ.not-nil m)
in-places (suc S) c x m = go (in-places S c x) (Memᴰ.append_cases (places_of S c) m)
  where
    go : (x ∈ places_of S c → (x.channel ≡ c) × (x.subband < S)) → (x ∈ places_of S c) ⊎ (x ∈ (place c S ∷ []))
        → (x.channel ≡ c) × (x.subband < suc S)
    go below (inl m) = let b = below m in (b.0, omega (arith, b.1))
    go below (inr m) =
        let e = Memᴰ.eq_of_singleton m in
        let s : x.subband ≡ S = ap (λ (y : Place). y.subband) e in
        (ap (λ (y : Place). y.channel) e, omega arith)

map-build : {A B : Type 0} (f : A → B) (n : ℕ) (g : ℕ → A) → map f (build n g) ≡ build n (λ i. f (g i))
unfolding build collect
map-build f zero g = refl
map-build f (suc n) g = map-append f (build n g) (g n ∷ []) ∙ ap (λ l. l ++ (f (g n) ∷ [])) (map-build f n g)

-- what a table has at them is the channel's row
places_row : (S c : ℕ) (table : List (List ℕ)) → length (get_or table c []) ≡ S → map (entry_at table) (places_of S c) ≡ get_or table c []
unfolding places_of entry_at
places_row S c table long =
    map-build (entry_at table) S (place c) ∙ build-is S (λ i. get_or (get_or table c []) i 0) (get_or table c []) 0 long (λ i h. refl)

-- ---- left before right: subband i of channel c stands at twice i and c
twice : ℕ → ℕ → ℕ
twice zero c = c
twice (suc i) c = suc (suc (twice i c))

twice-lt : (c i s : ℕ) → c < 2 → i < s → twice i c < s + s
unfolding twice
twice-lt c i zero h l = absurd (omega arith)
twice-lt c zero (suc s) h l = omega arith
twice-lt c (suc i) (suc s) h l = omega (arith, twice-lt c i s h (omega arith))

channel_row-at : (c i : ℕ) (bits : List ℕ) → c < 2 → i < length (channel_row c bits) → get_or (channel_row c bits) i 0 ≡ get_or bits (twice i c) 0
unfolding channel_row twice
channel_row-at c i [] h l = absurd (omega arith)
channel_row-at c i (b ∷ []) h l = absurd (omega arith)
channel_row-at zero zero (b ∷ d ∷ bits) h l = refl
channel_row-at (suc zero) zero (b ∷ d ∷ bits) h l = refl
channel_row-at (suc (suc c)) zero (b ∷ d ∷ bits) h l = absurd (omega arith)
channel_row-at c (suc i) (b ∷ d ∷ bits) h l = channel_row-at c i bits h (omega arith)

left_first-at : (c i : ℕ) (ls rs : List ℤ) → c < 2 → i < length ls → i < length rs
    → get_or (left_first ls rs) (twice i c) (pos 0) ≡ get_or (get_or (ls ∷ rs ∷ []) c []) i (pos 0)
unfolding left_first twice
left_first-at c i [] rs h l r = absurd (omega arith)
left_first-at c i (x ∷ ls) [] h l r = absurd (omega arith)
left_first-at zero zero (x ∷ ls) (y ∷ rs) h l r = refl
left_first-at (suc zero) zero (x ∷ ls) (y ∷ rs) h l r = refl
left_first-at (suc (suc c)) i (x ∷ ls) (y ∷ rs) h l r = absurd (omega arith)
left_first-at zero (suc i) (x ∷ ls) (y ∷ rs) h l r = left_first-at 0 i ls rs h (omega arith) (omega arith)
left_first-at (suc zero) (suc i) (x ∷ ls) (y ∷ rs) h l r = left_first-at 1 i ls rs h (omega arith) (omega arith)

pub sum-append : (xs ys : List ℕ) → sum (xs ++ ys) ≡ sum xs + sum ys
unfolding sum
sum-append [] ys = omega arith
sum-append (x ∷ xs) ys = omega (arith, sum-append xs ys)

sum_rows : (s : ℕ) (bits : List ℕ) → length bits ≡ s + s → sum (channel_row 0 bits) + sum (channel_row 1 bits) ≡ sum bits
unfolding sum channel_row
sum_rows s [] h = refl
sum_rows s (b ∷ []) h = absurd (omega arith)
sum_rows s (b ∷ d ∷ bits) h = omega (arith, sum_rows (s - 1) bits (omega arith))

-- ---- from a list of needs to its places
module _ (p : SbcParameters) (factors : List (List ℕ)) where
  abbrev needs_of : ℕ → List ℤ
  needs_of c = channel_needs p (get_or factors c [])

  -- a place is an entry of both lists
  record Spot (needs : List ℤ) (bits : List ℕ) (x : Place) : Type 0 where
    index : ℕ
    inside : index < length needs
    bits_is : entry_at (allocate p factors) x ≡ get_or bits index 0
    need-is : need_at p factors x ≡ get_or needs index (pos 0)

  fair : (bitpool : ℕ) (needs : List ℤ) (bits : List ℕ) (group : List Place) → ByNeed bitpool needs bits
      → sum (map (entry_at (allocate p factors)) group) ≡ sum bits → ((x : Place) → x ∈ group → Spot needs bits x)
      → Fair bitpool (entry_at (allocate p factors)) (need_at p factors) group
  unfolding entry_at
  fair bitpool needs bits group shared total spot =
      record {
        whole = total ∙ shared.whole;
        most = λ x m. allocate-16 p factors x.channel x.subband;
        ordered = λ x y m n less.
            let a = spot x m in
            let b = spot y n in
            let less-needs = subst₂ ◌<ℤ◌ a.need-is b.need-is less in
            omega (arith, a.bits_is, b.bits_is, shared.ordered a.index b.index a.inside b.inside less-needs);
      }

  module _ (accept : accepted p ≡ true) (enough : (c : ℕ) → c < channels p → p.subbands ≤ length (get_or factors c [])) where
    needs-long : (c : ℕ) → c < channels p → length (needs_of c) ≡ p.subbands
    needs-long c h = omega (arith, length-channel_needs p (get_or factors c []), enough c h)

    need-at : (c i : ℕ) → c < channels p → i < p.subbands → need_at p factors (place c i) ≡ get_or (needs_of c) i (pos 0)
    unfolding need_at entry_at channel_needs
    need-at c i h l =
        let row = get_or factors c [] in
        sym (get_or-build (min p.subbands (length row)) (λ i. need p (get_or row i 0) i) i (pos 0) (omega (arith, enough c h)))

    -- a channel by itself
    alone : (c : ℕ) → c < channels p → p.bitpool ≤ 16 * p.subbands → get_or (allocate p factors) c [] ≡ share (needs_of c) p.bitpool
        → Fair p.bitpool (entry_at (allocate p factors)) (need_at p factors) (places_of p.subbands c)
    unfolding entry_at
    alone c h room row_is =
        let long = needs-long c h in
        let bits = share (needs_of c) p.bitpool in
        let shared = share-by-need (needs_of c) p.bitpool (omega (arith, (ranges p accept).bitpool-low)) (omega arith) in
        let row-long : length (get_or (allocate p factors) c []) ≡ p.subbands = ap length row_is ∙ shared.one_each ∙ long in
        fair p.bitpool (needs_of c) bits (places_of p.subbands c) shared
        (ap sum (places_row p.subbands c (allocate p factors) row-long ∙ row_is))
        (λ x m.
        let at = in-places p.subbands c x m in
        record {
          index = x.subband;
          inside = omega (arith, at.1);
          bits_is =
              ap (λ (k : ℕ). get_or (get_or (allocate p factors) k []) x.subband 0) at.0 ∙ ap (λ (row : List ℕ). get_or row x.subband 0) row_is;
          need-is = ap (λ (k : ℕ). need_at p factors (place k x.subband)) at.0 ∙ need-at c x.subband h at.1;
        })

    -- both channels together
    module _
        (two : channels p ≡ 2)
        (room : p.bitpool ≤ 32 * p.subbands)
        (rows_are : allocate p factors ≡ rows_together p.bitpool (needs_of 0) (needs_of 1))
      where
        abbrev needs : List ℤ
        needs = left_first (needs_of 0) (needs_of 1)

        abbrev bits : List ℕ
        bits = share needs p.bitpool

        needs-both : length needs ≡ p.subbands + p.subbands
        needs-both = length-left_first p.subbands (needs_of 0) (needs_of 1) (needs-long 0 (omega arith)) (needs-long 1 (omega arith))

        shared : ByNeed p.bitpool needs bits
        shared = share-by-need needs p.bitpool (omega (arith, (ranges p accept).bitpool-low)) (omega (arith, needs-both))

        row_is : (c : ℕ) → c < 2 → get_or (allocate p factors) c [] ≡ channel_row c bits
        unfolding rows_together
        row_is zero h = ap (λ (t : List (List ℕ)). get_or t 0 []) rows_are
        row_is (suc zero) h = ap (λ (t : List (List ℕ)). get_or t 1 []) rows_are
        row_is (suc (suc c)) h = absurd (omega arith)

        row-long : (c : ℕ) → c < 2 → length (channel_row c bits) ≡ p.subbands
        row-long c h = length-channel_row c p.subbands bits (shared.one_each ∙ needs-both)

        side : (c : ℕ) → c < 2 → get_or (needs_of 0 ∷ needs_of 1 ∷ []) c [] ≡ needs_of c
        side zero h = refl
        side (suc zero) h = refl
        side (suc (suc c)) h = absurd (omega arith)

        spot : (c : ℕ) → c < 2 → (x : Place) → x ∈ places_of p.subbands c → Spot needs bits x
        unfolding entry_at
        spot c h x m =
            let at = in-places p.subbands c x m in
            let i = x.subband in
            record {
              index = twice i c;
              inside = omega (arith, twice-lt c i p.subbands h at.1, needs-both);
              bits_is =
                  ap (λ (k : ℕ). get_or (get_or (allocate p factors) k []) i 0) at.0 ∙ ap (λ (row : List ℕ). get_or row i 0) (row_is c h)
                  ∙ channel_row-at c i bits h (omega (arith, row-long c h, at.1));
              need-is =
                  ap (λ (k : ℕ). need_at p factors (place k i)) at.0 ∙ need-at c i (omega arith) at.1
                  ∙ ap (λ (l : List ℤ). get_or l i (pos 0)) (sym (side c h))
                  ∙ sym
                  (left_first-at c i (needs_of 0) (needs_of 1) h
                  (omega (arith, needs-long 0 (omega arith), at.1))
                  (omega (arith, needs-long 1 (omega arith), at.1)));
            }

        row_of : (c : ℕ) → c < 2 → map (entry_at (allocate p factors)) (places_of p.subbands c) ≡ channel_row c bits
        row_of c h = places_row p.subbands c (allocate p factors) (ap length (row_is c h) ∙ row-long c h) ∙ row_is c h

        together : Fair p.bitpool (entry_at (allocate p factors)) (need_at p factors) (places_of p.subbands 0 ++ places_of p.subbands 1)
        together =
            fair p.bitpool needs bits (places_of p.subbands 0 ++ places_of p.subbands 1) shared
            (ap sum
            (map-append (entry_at (allocate p factors)) (places_of p.subbands 0) (places_of p.subbands 1)
            ∙ ap₂ ◌++◌ (row_of 0 (lit< tt)) (row_of 1 (lit< tt)))
            ∙ sum-append (channel_row 0 bits) (channel_row 1 bits) ∙ sum_rows p.subbands bits (shared.one_each ∙ needs-both))
            (λ x m. either x (Memᴰ.append_cases (places_of p.subbands 0) m))
          where
            either : (x : Place) → (x ∈ places_of p.subbands 0) ⊎ (x ∈ places_of p.subbands 1) → Spot needs bits x
            either x (inl m) = spot 0 (lit< tt) x m
            either x (inr m) = spot 1 (lit< tt) x m

-- ---- the theorem
allocate-by : (p : SbcParameters) (factors : List (List ℕ)) {mode : SbcChannelMode} → p.channel_mode ≡ mode
    → allocate p factors ≡ allocate_by mode p.bitpool (needs_of p factors 0) (needs_of p factors 1)
unfolding allocate
allocate-by p factors e = rw e

pub shares-fair : SharesFair allocate
unfolding groups groups_by allocate_by maximum_bitpool
shares-fair p factors accept enough group m = go p.channel_mode refl m
  where
    high : p.bitpool ≤ maximum_bitpool p
    high = (ranges p accept).bitpool-high

    -- a row of the allocation, in a mode
    row : (c : ℕ) {mode : SbcChannelMode} → p.channel_mode ≡ mode
        → get_or (allocate p factors) c [] ≡ get_or (allocate_by mode p.bitpool (needs_of p factors 0) (needs_of p factors 1)) c []
    row c e = ap (λ (t : List (List ℕ)). get_or t c []) (allocate-by p factors e)

    FairOf : List Place → Type 0
    FairOf g = Fair p.bitpool (entry_at (allocate p factors)) (need_at p factors) g

    of : {g : List Place} → group ≡ g → FairOf g → FairOf group
    of e f = subst FairOf (sym e) f

    go : (mode : SbcChannelMode) → p.channel_mode ≡ mode → group ∈ groups_by mode p.subbands → FairOf group
    go Mono e m =
        of (Memᴰ.eq_of_singleton m)
        (alone p factors accept enough 0 (rw e (lit< tt)) (rw e at high) (row 0 e))
    go DualChannel e m =
        ⊎_elim
        (λ is. of is (alone p factors accept enough 0 (rw e (lit< tt)) (rw e at high) (row 0 e)))
        (λ m. of (Memᴰ.eq_of_singleton m) (alone p factors accept enough 1 (rw e (lit< tt)) (rw e at high) (row 1 e)))
        (Memᴰ.cases_cons m)
    go Stereo e m = of (Memᴰ.eq_of_singleton m) (together p factors accept enough (rw e) (rw e at high) (allocate-by p factors e))
    go JointStereo e m = of (Memᴰ.eq_of_singleton m) (together p factors accept enough (rw e) (rw e at high) (allocate-by p factors e))

-- ---- the same of the table that the code gives back
in_group : (mode : SbcChannelMode) (S : ℕ) (group : List Place) → group ∈ groups_by mode S
    → (x : Place) → x ∈ group → (x.channel < 2) × (x.subband < S)
unfolding groups_by
in_group mode S group m x n = go mode m
  where
    in-it : {g : List Place} → group ≡ g → x ∈ g
    in-it e = subst (λ (g : List Place). x ∈ g) e n

    channel : (c : ℕ) → c < 2 → x ∈ places_of S c → (x.channel < 2) × (x.subband < S)
    channel c h n = let at = in-places S c x n in (omega (arith, at.0), at.1)

    both : group ∈ ((places_of S 0 ++ places_of S 1) ∷ []) → (x.channel < 2) × (x.subband < S)
    both m = ⊎_elim (channel 0 (lit< tt)) (channel 1 (lit< tt)) (Memᴰ.append_cases (places_of S 0) (in-it (Memᴰ.eq_of_singleton m)))

    go : (mode : SbcChannelMode) → group ∈ groups_by mode S → (x.channel < 2) × (x.subband < S)
    go Mono m = channel 0 (lit< tt) (in-it (Memᴰ.eq_of_singleton m))
    go DualChannel m =
        ⊎_elim (λ is. channel 0 (lit< tt) (in-it is)) (λ m. channel 1 (lit< tt) (in-it (Memᴰ.eq_of_singleton m))) (Memᴰ.cases_cons m)
    go Stereo m = both m
    go JointStereo m = both m

map_same : (f g : Place → ℕ) (xs : List Place) → ((x : Place) → x ∈ xs → f x ≡ g x) → map f xs ≡ map g xs
map_same f g [] h = refl
map_same f g (x ∷ xs) h = ap₂ (λ (a : ℕ) (l : List ℕ). a ∷ l) (h x (Memᴰ.head refl)) (map_same f g xs (λ y m. h y (Memᴰ.tail m)))

pub table-shares-fair : SharesFair allocation_table
unfolding groups entry_at
table-shares-fair p factors accept enough group m =
    let f = shares-fair p factors accept enough group m in
    record {
      whole = ap sum (map_same (entry_at (allocation_table p factors)) (entry_at (allocate p factors)) group same) ∙ f.whole;
      most = λ x n. omega (arith, same x n, f.most x n);
      ordered = λ x y n o less. omega (arith, same x n, same y o, f.ordered x y n o less);
    }
  where
    same : (x : Place) → x ∈ group → entry_at (allocation_table p factors) x ≡ entry_at (allocate p factors) x
    same x n =
        let at = in_group p.channel_mode p.subbands group m x n in
        table_at p factors x.channel x.subband at.0 (omega (arith, at.1, (ranges p accept).subbands-high))
