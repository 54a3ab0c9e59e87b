-- Sum and difference of both channels: of one subband, block by block; and of the subbands whose flag is set, one after the other.
-- Assumes nothing.
use Prim.Native.Nat.{ℕ, zero, suc, ◌+◌, ◌≤◌, ◌<◌, ◌^◌}
use mathlib.Core.Path.{◌≡◌, refl, sym, ap, ap₂, ◌∙◌}
use mathlib.Core.Bool.{Bool, true, false}
use mathlib.Core.Logic.{◌≢◌}
use mathlib.Core.List.{List, [], ◌∷◌}
use native.Mathlib.Decide.{ℕ_discrete}
use native.Mathlib.Omega.{arith}
use lib.Dec.{eqb, ltb, lit<}
use lib.ListN.{length, get_or, set, get_or-eq_default}
use lib.IntN.{ℤ, pos, nat_abs, ◌+ℤ◌, ◌-ℤ◌}
use mir.Syntax.{w32}
use mir.Val.{SFits, to_z, of_z}
use mir.Facts.{to_z-of_z}
use borrow.Author.Tests.{lt-ltb, le-ltb, ltb-true, ltb-false}
use Rattle.std.specs.Prelude.{if◌then◌else◌}
use Rattle.laws.specs.Lists.{build}
use Rattle.laws.proofs.Abs.{within-fits, sum_fits, difference-fits, nat_abs-+, nat_abs--}
use Rattle.laws.proofs.Arrays.{build-set}
use Rattle.laws.proofs.Cases.{by-test}
use Rattle.laws.proofs.Lists.{get_or-build, build-is, build-ext, build-all}
use Rattle.sbc_frame.specs.Encoding.{sample_at}
use Rattle.sbc_frame.specs.Arrays.{entry, rows_of, with_rows, with_subband, with_flagged, Small}
use Rattle.sbc_frame.specs.declared.blocks.Blocks.{Blocks}
use Rattle.sbc_frame.proofs.Columns.{length_rows, row_in, row_out, rows_ext, rows_again, column_next}
use Rattle.sbc_read.specs.Reading.{sum_or_difference, restored_at}

-- ---- sum and difference of two samples, as the machine reads and stores them
abbrev read : ℤ → ℤ
read z = to_z w32 (of_z w32 z)

read_same : (z : ℤ) → nat_abs z ≤ 2 ^ 27 → read z ≡ z
read_same z h = to_z-of_z (within-fits w32 z h (lit< tt))

module _ (l r : ℤ) (hl : nat_abs l ≤ 2 ^ 27) (hr : nat_abs r ≤ 2 ^ 27) where
  sum_value : read l +ℤ read r ≡ l +ℤ r
  sum_value = ap₂ ◌+ℤ◌ (read_same l hl) (read_same r hr)

  difference_value : read l -ℤ read r ≡ l -ℤ r
  difference_value = ap₂ ◌-ℤ◌ (read_same l hl) (read_same r hr)

  sum_fit : SFits w32 (read l +ℤ read r)
  sum_fit = rw sum_value (sum_fits w32 l r hl hr (lit< tt))

  difference_fit : SFits w32 (read l -ℤ read r)
  difference_fit = rw difference_value (difference-fits w32 l r hl hr (lit< tt))

-- sample s of block n of channel c stored
abbrev put : ℕ → ℕ → ℕ → ℤ → List Blocks → List Blocks
put n s c z bs = set bs c (record { rows = set (rows_of bs c) n (set (get_or (rows_of bs c) n []) s (to_z w32 (of_z w32 z))) })

module _ (old : List Blocks) where
  -- ---- one subband: in the first n blocks it is joined
  module _ (s : ℕ) where
    abbrev pub Stored : ℕ → List Blocks → Type 0
    Stored n channels =
        (length channels ≡ 2) × ((c : ℕ) → c < 2 → rows_of channels c ≡ with_subband n s (λ b. restored_at old c b s) (rows_of old c))

    module _ (n : ℕ) (low : n < 16) where
      -- the row of the next block is still the old one
      still : (channels : List Blocks) → Stored n channels → (c : ℕ) → c < 2
          → sample_at (rows_of channels c) n s ≡ sample_at (rows_of old c) n s
      unfolding with_subband
      still channels j c h =
          ap (λ (xs : List (List ℤ)). sample_at xs n s) (j.1 c h)
          ∙ ap (λ (row : List ℤ). get_or row s (pos 0)) (row_out _ (rows_of old c) n n (omega arith) low)

      -- and then it is joined
      stored_next : (channels : List Blocks) (x y : ℤ) → Stored n channels → SFits w32 x → SFits w32 y → x ≡ restored_at old 0 n s
          → y ≡ restored_at old 1 n s
          → Stored (n + 1) (put n s 1 y (put n s 0 x channels))
      stored_next [] x y j fx fy ex ey = absurd (omega (arith, j.0))
      stored_next (a ∷ []) x y j fx fy ex ey = absurd (omega (arith, j.0))
      stored_next (a ∷ b ∷ (d ∷ ds)) x y j fx fy ex ey = absurd (omega (arith, j.0))
      stored_next (a ∷ b ∷ []) x y j fx fy ex ey = (refl, go)
        where
          go : (c : ℕ) → c < 2
              → rows_of (put n s 1 y (put n s 0 x (a ∷ b ∷ []))) c
              ≡ with_subband (n + 1) s (λ b. restored_at old c b s) (rows_of old c)
          go zero h = column_next s _ (rows_of old 0) n a.rows x (j.1 0 h) low fx ex
          go (suc zero) h = column_next s _ (rows_of old 1) n b.rows y (j.1 1 h) low fy ey
          go (suc (suc c)) h = absurd (omega arith)

      -- its samples, as the machine reads and stores them
      module _ (channels : List Blocks) (j : Stored n channels)
          (small : (c : ℕ) → c < 2 → nat_abs (sample_at (rows_of old c) n s) ≤ 2 ^ 27) where
        abbrev sample : ℕ → ℤ
        sample c = sample_at (rows_of channels c) n s

        bound : (c : ℕ) → c < 2 → nat_abs (sample c) ≤ 2 ^ 27
        bound c h = rw (still channels j c h) (small c h)

        pub sum_here : SFits w32 (read (sample 0) +ℤ read (sample 1))
        sum_here = sum_fit (sample 0) (sample 1) (bound 0 (omega arith)) (bound 1 (omega arith))

        pub difference_here : SFits w32 (read (sample 0) -ℤ read (sample 1))
        difference_here = difference_fit (sample 0) (sample 1) (bound 0 (omega arith)) (bound 1 (omega arith))

        pub stored_here : Stored (n + 1)
            (put n s 1 (read (sample 0) -ℤ read (sample 1)) (put n s 0 (read (sample 0) +ℤ read (sample 1)) channels))
        stored_here =
            let l = still channels j 0 (omega arith) in
            let r = still channels j 1 (omega arith) in
            stored_next channels _ _ j sum_here difference_here
            (sum_value (sample 0) (sample 1) (bound 0 (omega arith)) (bound 1 (omega arith)) ∙ ap₂ ◌+ℤ◌ l r)
            (difference_value (sample 0) (sample 1) (bound 0 (omega arith)) (bound 1 (omega arith)) ∙ ap₂ ◌-ℤ◌ l r)

  -- ---- the subbands below t: in the n blocks they are joined where their flag is set
  module _ (n : ℕ) (flags : List ℕ) where
    -- the sample of channel c in the end
    abbrev joined : ℕ → ℕ → ℕ → ℤ
    joined c b s = if eqb (entry flags s) 1 then restored_at old c b s else sample_at (rows_of old c) b s

    abbrev passed : ℕ → ℕ → ℕ → ℕ → ℤ
    passed t c b s = if ltb s t then joined c b s else sample_at (rows_of old c) b s

    abbrev passed_row : ℕ → ℕ → ℕ → List ℤ
    passed_row t c b = build 8 (passed t c b)

    abbrev pub Joined : ℕ → List Blocks → Type 0
    Joined t channels = (c : ℕ) → c < 2 → rows_of channels c ≡ with_rows n (passed_row t c) (rows_of old c)

    -- no subband yet
    pub joined_none : ((c : ℕ) → c < 2 → length (rows_of old c) ≡ 16)
        → ((c b : ℕ) → c < 2 → b < n → length (get_or (rows_of old c) b []) ≡ 8) → Joined 0 old
    unfolding with_rows
    joined_none long eight c h = sym (build-is 16 _ (rows_of old c) [] (long c h) (λ b _. here b))
      where
        row : (b : ℕ) → b < n → passed_row 0 c b ≡ get_or (rows_of old c) b []
        row b k = build-is 8 (passed 0 c b) (get_or (rows_of old c) b []) (pos 0) (eight c b h k) (λ s _. rw (le-ltb s 0 (omega arith)))

        here : (b : ℕ) → (if ltb b n then passed_row 0 c b else get_or (rows_of old c) b []) ≡ get_or (rows_of old c) b []
        here b =
            by-test (λ xs. xs ≡ get_or (rows_of old c) b []) (ltb b n) (passed_row 0 c b) (get_or (rows_of old c) b [])
            (λ e. row b (ltb-true b n e)) (λ _. refl)

    module _ (most : n ≤ 16) (t : ℕ) (low : t < 8) where
      -- the rows are as many as they were, and the samples of the next subband are still the old ones
      pub still_long : (channels : List Blocks) → Joined t channels → (c : ℕ) → c < 2 → length (rows_of channels c) ≡ 16
      still_long channels j c h = rw (j c h) (length_rows (passed_row t c) (rows_of old c) n)

      pub same : (channels : List Blocks) → Joined t channels → (c b : ℕ) → c < 2 → b < n
          → sample_at (rows_of channels c) b t ≡ sample_at (rows_of old c) b t
      same channels j c b h k =
          ap (λ (xs : List (List ℤ)). sample_at xs b t) (j c h)
          ∙ ap (λ (row : List ℤ). get_or row t (pos 0)) (row_in (passed_row t c) (rows_of old c) n b k most)
          ∙ get_or-build 8 (passed t c b) t (pos 0) low
          ∙ rw (le-ltb t t (omega arith))

      -- one subband more changes no other
      others : (c b s : ℕ) → s ≢ t → passed t c b s ≡ passed (t + 1) c b s
      others c b s ne =
          by-test (λ z. z ≡ passed (t + 1) c b s) (ltb s t) (joined c b s) (sample_at (rows_of old c) b s)
          (λ e. sym (rw (lt-ltb s (t + 1) (omega (arith, ltb-true s t e)))))
          (λ e. sym (rw (le-ltb s (t + 1) (omega (arith, ltb-false s t e)))))

      here : (c b : ℕ) → joined c b t ≡ passed (t + 1) c b t
      here c b = sym (rw (lt-ltb t (t + 1) (omega arith)))

      -- the next flag is set
      joined_set : (channels : List Blocks) → Joined t channels → eqb (entry flags t) 1 ≡ true → (c : ℕ) → c < 2
          → with_subband n t (λ b. restored_at channels c b t) (rows_of channels c) ≡ with_rows n (passed_row (t + 1) c) (rows_of old c)
      unfolding with_subband
      joined_set channels j e c h =
          ap (λ (xs : List (List ℤ)). with_rows n (λ b. set (get_or xs b []) t (restored_at channels c b t)) xs) (j c h)
          ∙ rows_again n (passed_row t c) (passed_row (t + 1) c) _ (rows_of old c)
          (λ b k _. ap (λ (row : List ℤ). set row t (restored_at channels c b t)) (row_in (passed_row t c) (rows_of old c) n b k most)
          ∙ build-set 8 (passed t c b) (passed (t + 1) c b) t (restored_at channels c b t) (pos 0)
          (ap₂ (sum_or_difference c) (same channels j 0 b (omega arith) k) (same channels j 1 b (omega arith) k) ∙ sym (rw e) ∙ here c b)
          (others c b))

      -- the next flag is not set
      joined_clear : (channels : List Blocks) → Joined t channels → eqb (entry flags t) 1 ≡ false → (c : ℕ) → c < 2
          → rows_of channels c ≡ with_rows n (passed_row (t + 1) c) (rows_of old c)
      joined_clear channels j e c h =
          j c h
          ∙ rows_ext n (passed_row t c) (passed_row (t + 1) c) (rows_of old c)
          (λ b _. build-ext 8 (passed t c b) (passed (t + 1) c b) (λ s _. go b s (ℕ_discrete s t)))
        where
          go : (b s : ℕ) → Dec (s ≡ t) → passed t c b s ≡ passed (t + 1) c b s
          go b s (yes r) = rw (r, le-ltb t t (omega arith)) (sym (rw e) ∙ here c b)
          go b s (no ne) = others c b s ne

      -- the next subband is passed
      pub joined_next : (channels next : List Blocks) → Joined t channels
          → ((c : ℕ) → c < 2
          → rows_of next c
          ≡ (if eqb (entry flags t) 1 then with_subband n t (λ b. restored_at channels c b t) (rows_of channels c) else rows_of channels c))
          → Joined (t + 1) next
      joined_next channels next j step c h = step c h ∙ go (eqb (entry flags t) 1) refl
        where
          go : (u : Bool) → eqb (entry flags t) 1 ≡ u
              → (if u then with_subband n t (λ b. restored_at channels c b t) (rows_of channels c) else rows_of channels c)
              ≡ with_rows n (passed_row (t + 1) c) (rows_of old c)
          go true e = joined_set channels j e c h
          go false e = joined_clear channels j e c h

    -- in the end all are passed
    pub joined_all : (t : ℕ) (channels : List Blocks) → 8 ≤ t → Joined t channels
        → (c : ℕ) → c < 2 → rows_of channels c ≡ with_flagged n flags (restored_at old c) (rows_of old c)
    unfolding with_flagged
    joined_all t channels h j c k =
        j c k ∙ rows_ext n (passed_row t c) _ (rows_of old c)
        (λ b _. build-ext 8 (passed t c b) (joined c b) (λ s q. rw (lt-ltb s t (omega arith))))

    -- joined samples are at most twice as large
    module _ (most : n ≤ 16) (small : (c : ℕ) → c < 2 → Small n (2 ^ 27) (rows_of old c)) where
      pub joined_small : (channels : List Blocks) → length channels ≡ 2
          → ((c : ℕ) → c < 2 → rows_of channels c ≡ with_flagged n flags (restored_at old c) (rows_of old c))
          → (c b s : ℕ) → b < n → nat_abs (sample_at (rows_of channels c) b s) ≤ 2 ^ 28
      unfolding with_flagged
      joined_small channels long j c b s hb = go (ltb c 2) refl
        where
          at : ℕ → ℤ
          at s = if eqb (entry flags s) 1 then restored_at old c b s else sample_at (rows_of old c) b s

          each : c < 2 → (s : ℕ) → nat_abs (at s) ≤ 2 ^ 28
          each h s =
              let l = small 0 (omega arith) b s hb in
              let r = small 1 (omega arith) b s hb in
              by-test (λ z. nat_abs z ≤ 2 ^ 28) (eqb (entry flags s) 1) _ _
              (λ _. by-test (λ z. nat_abs z ≤ 2 ^ 28) (eqb c 0) _ _
              (λ _. omega (arith, nat_abs-+ (sample_at (rows_of old 0) b s) (sample_at (rows_of old 1) b s), l, r))
              (λ _. omega (arith, nat_abs-- (sample_at (rows_of old 0) b s) (sample_at (rows_of old 1) b s), l, r)))
              (λ _. omega (arith, small c h b s hb))

          go : (t : Bool) → ltb c 2 ≡ t → nat_abs (sample_at (rows_of channels c) b s) ≤ 2 ^ 28
          go true t =
              let h = ltb-true c 2 t in
              rw (j c h, row_in _ (rows_of old c) n b hb most)
              (build-all (λ z. nat_abs z ≤ 2 ^ 28) 8 at s (pos 0) (each h) (omega arith))
          go false t =
              let out : length channels ≤ c = omega (arith, long, ltb-false c 2 t) in
              let none : rows_of channels c ≡ [] = ap (λ x. x.rows) (get_or-eq_default channels (record { rows = [] }) out) in
              rw none (omega arith)
