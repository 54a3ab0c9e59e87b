-- What is coded of a frame: the channels as they are, or sum and difference where a join flag is set. What the code
-- chooses by its rows of flags and scale factors is what `coded_at` says.
-- Assumes nothing.
use Prim.Native.Nat.{ℕ, zero, suc, ◌≤◌, ◌<◌, max}
use mathlib.Core.Path.{◌≡◌, refl, sym, ap, ap₂, ◌∙◌, fun_ext}
use mathlib.Core.Bool.{Bool, true, false}
use mathlib.Core.List.{List, [], ◌∷◌}
use native.Mathlib.Omega.{arith}
use lib.Dec.{lit≤, eqb}
use borrow.Author.Tests.{eqb-true, eqb-false}
use lib.IntN.{ℤ, pos, nat_abs}
use lib.ListN.{length, get_or, set, get_or-replicate}
use Rattle.std.specs.Prelude.{if◌then◌else◌}
use Rattle.laws.specs.Lists.{build, collect, greatest}
use Rattle.laws.specs.Bits.{digit}
use Rattle.laws.proofs.Cases.{by-test}
use Rattle.laws.proofs.Lists.{get_or-build, build-ext, build-all}
use Rattle.sbc_parameters.specs.declared.SbcParameters.{SbcParameters}
use Rattle.sbc_modes.specs.Modes.{is_joint}
use Rattle.sbc_parameters.specs.Parameters.{channels, accepted}
use Rattle.sbc_parameters.specs.Sizes.{join_count}
use Rattle.sbc_parameters.proofs.Accepted.{channels-range, ranges}
use Rattle.sbc_quantizer.specs.Quantizing.{scale_factor}
use Rattle.sbc_quantizer.proofs.Factors.{scale-factor-le}
use Rattle.sbc_frame.specs.declared.blocks.Blocks.{Blocks}
use Rattle.sbc_frame.specs.Encoding.{sample_at, factor_of, joined_at, plain_cost, joined_cost, is_joined, coded_at}
use Rattle.sbc_frame.specs.Arrays.{entry, rows_of, with_flagged}
use Rattle.sbc_frame.proofs.Sizes.{joins-two}
use Rattle.sbc_frame.proofs.Coding.{none-joined, coded-alone}
use Rattle.sbc_frame.proofs.Flagged.{flagged_in}
use Rattle.sbc_factors.specs.Factors.{factors_in}
use Rattle.sbc_join.specs.Joining.{joined_samples, join_row, picked_row}
use Rattle.sbc_code.specs.Coding.{factor_rows, picked_rows, picked_samples, plain_coding, join_flags, joint_coding, coding_of}
use Rattle.sbc_code.specs.Coding.{CodingIn, ChannelsIn}

-- ---- rows of eight: flags of one bit and scale factors of four
pub factors_low : (n : ℕ) (xs : List (List ℤ)) (s : ℕ) → entry (factors_in n xs) s ≤ 15
unfolding factors_in
factors_low n xs s = build-all (λ (k : ℕ). k ≤ 15) 8 _ s 0 (λ j. scale-factor-le _) (lit≤ tt)

-- so is one that is picked
pub picked_low : (flags : List ℕ) (plain joined : List (List ℕ)) {row : List ℕ} (c : ℕ) → ((c s : ℕ) → entry (get_or plain c []) s ≤ 15)
    → ((c s : ℕ) → entry (get_or joined c []) s ≤ 15) → row ≡ picked_row 0 flags (get_or plain c []) (get_or joined c [])
    → (s : ℕ) → entry row s ≤ 15
unfolding picked_row
picked_low flags plain joined c hp hj e s =
    rw e
    (build-all (λ (k : ℕ). k ≤ 15) 8 _ s 0
    (λ j. by-test (λ (k : ℕ). k ≤ 15) (eqb (entry flags j) 1) _ _ (λ _. hj c j) (λ _. hp c j))
    (lit≤ tt))

-- so are those of both channels
pub both_low : (a b : List ℕ) → ((s : ℕ) → entry a s ≤ 15) → ((s : ℕ) → entry b s ≤ 15)
    → (c s : ℕ) → entry (get_or (a ∷ b ∷ []) c []) s ≤ 15
both_low a b ha hb zero s = ha s
both_low a b ha hb (suc zero) s = hb s
both_low a b ha hb (suc (suc c)) s = lit≤ tt

-- a flag is one bit
digit-small : (b : Bool) → digit b ≤ 1
unfolding digit
digit-small true = lit≤ tt
digit-small false = lit≤ tt

pub flags_low : (S : ℕ) (plain joined : List (List ℕ)) (s : ℕ) → entry (join_row S plain joined) s ≤ 1
unfolding join_row
flags_low S plain joined s = build-all (λ (k : ℕ). k ≤ 1) 8 _ s 0 (λ j. digit-small _) (lit≤ tt)

-- ---- the rows of both channels, one by one
pub factors_are : (n : ℕ) (samples : ℕ → List (List ℤ)) → factor_rows n samples ≡ factors_in n (samples 0) ∷ factors_in n (samples 1) ∷ []
unfolding factor_rows build collect
factors_are n samples = refl

pub picked_are : (flags : List ℕ) (plain joined : List (List ℕ)) → picked_rows flags plain joined
    ≡ picked_row 0 flags (get_or plain 0 []) (get_or joined 0 []) ∷ picked_row 0 flags (get_or plain 1 []) (get_or joined 1 []) ∷ []
unfolding picked_rows build collect
picked_are flags plain joined = refl

-- ---- what the code has of a frame whose subbands may be joined
-- the scale factors of both channels, by equal samples of each
both-ext : (n : ℕ) (xs ys : ℕ → List (List ℤ)) → ((c : ℕ) → c < 2 → xs c ≡ ys c) → factor_rows n xs ≡ factor_rows n ys
unfolding factor_rows
both-ext n xs ys h = build-ext 2 _ _ (λ c k. ap (factors_in n) (h c k))

-- both channels stored, one after the other
both-stored : (xs : List Blocks) (left right : Blocks) → length xs ≡ 2 → set (set xs 0 left) 1 right ≡ left ∷ right ∷ []
both-stored [] left right e = absurd (omega arith)
both-stored (x ∷ []) left right e = absurd (omega arith)
both-stored (x ∷ y ∷ []) left right e = refl
both-stored (x ∷ y ∷ z ∷ xs) left right e = absurd (omega arith)

second-kept : (xs : List Blocks) (left : Blocks) → rows_of (set xs 0 left) 1 ≡ rows_of xs 1
second-kept [] left = refl
second-kept (x ∷ xs) left = refl

-- each part by those before it
module _ (p : SbcParameters) (xs js : List Blocks) (two : length xs ≡ 2)
    (same : (c : ℕ) → c < 2 → rows_of js c ≡ joined_samples (rows_of xs) c) where
  pub joint_is : {n S : ℕ} {flags : List ℕ} {plain joined factors : List (List ℕ)} {left right : Blocks} → n ≡ p.blocks → S ≡ p.subbands
      → plain ≡ factor_rows n (rows_of xs) → joined ≡ factor_rows n (rows_of js) → flags ≡ join_row S plain joined
      → factors ≡ picked_rows flags plain joined
      → left.rows ≡ with_flagged n flags (sample_at (rows_of js 0)) (rows_of xs 0)
      → right.rows ≡ with_flagged n flags (sample_at (rows_of js 1)) (rows_of (set xs 0 left) 1)
      → record { flags = flags; factors = factors; samples = set (set xs 0 left) 1 right } ≡ joint_coding p xs
  unfolding joint_coding picked_samples build collect
  joint_is {n = n} {flags = flags} {left = left} {right = right} b d pl jo f fs l r =
      let plain = pl ∙ (λ i. factor_rows (b i) (rows_of xs)) in
      let joined = jo ∙ (λ i. factor_rows (b i) (rows_of js)) ∙ both-ext p.blocks (rows_of js) (joined_samples (rows_of xs)) same in
      let e = f ∙ (λ i. join_row (d i) (plain i) (joined i)) in
      let first = same 0 (omega arith) in
      let second = same 1 (omega arith) in
      let k = fs ∙ (λ i. picked_rows (e i) (plain i) (joined i)) in
      let l' = l ∙ (λ i. with_flagged (b i) (e i) (sample_at (first i)) (rows_of xs 0)) in
      let r' = r ∙ (λ i. with_flagged n flags (sample_at (rows_of js 1)) (second-kept xs left i))
      ∙ (λ i. with_flagged (b i) (e i) (sample_at (second i)) (rows_of xs 1)) in
      let s = both-stored xs left right two ∙ (λ i. record { rows = l' i } ∷ record { rows = r' i } ∷ []) in
      λ i. record { flags = e i; factors = k i; samples = s i }

-- ---- scale factors
-- the greatest looks at the first n numbers only
greatest-ext : (n : ℕ) (f g : ℕ → ℕ) → ((i : ℕ) → i < n → f i ≡ g i) → greatest n f ≡ greatest n g
unfolding greatest
greatest-ext zero f g h = refl
greatest-ext (suc n) f g h = ap₂ max (greatest-ext n f g (λ i lt. h i (omega arith))) (h n (omega arith))

-- an entry is the factor of the samples that the array holds
row-factor : (p : SbcParameters) (xs : List (List ℤ)) (f : ℕ → ℤ) (s : ℕ) → s < 8 → ((b : ℕ) → b < p.blocks → sample_at xs b s ≡ f b)
    → entry (factors_in p.blocks xs) s ≡ factor_of p f
unfolding factors_in factor_of
row-factor p xs f s hs h = get_or-build 8 _ s 0 hs ∙ ap scale_factor (greatest-ext p.blocks _ _ (λ b hb. ap nat_abs (h b hb)))

-- so by channel
channel-factor : (p : SbcParameters) (xs : ℕ → List (List ℤ)) (f : ℕ → ℤ) (c s : ℕ) → c < 2 → s < 8
    → ((b : ℕ) → b < p.blocks → sample_at (xs c) b s ≡ f b) → entry (get_or (factor_rows p.blocks xs) c []) s ≡ factor_of p f
unfolding factor_rows
channel-factor p xs f c s hc hs h =
    ap (λ (row : List ℕ). entry row s) (get_or-build 2 (λ c. factors_in p.blocks (xs c)) c [] hc) ∙ row-factor p (xs c) f s hs h

-- ---- join flags
-- a digit is 1 for true
digit-one : (b : Bool) → eqb (digit b) 1 ≡ b
unfolding digit
digit-one true = refl
digit-one false = refl

-- a set with no join flags is not joint
unjoint : (p : SbcParameters) → accepted p ≡ true → join_count p ≡ 0 → is_joint p.channel_mode ≡ false
unfolding join_count
unjoint p a = go (is_joint p.channel_mode)
  where
    go : (t : Bool) → (if t then p.subbands else 0) ≡ 0 → t ≡ false
    go true e = absurd (omega (arith, (ranges p a).subbands-low))
    go false e = refl

-- a set with join flags is
joint : (p : SbcParameters) → 0 < join_count p → is_joint p.channel_mode ≡ true
unfolding join_count
joint p = go (is_joint p.channel_mode)
  where
    go : (t : Bool) → 0 < (if t then p.subbands else 0) → t ≡ true
    go true h = refl
    go false h = absurd (omega arith)

module _ (p : SbcParameters) (a : accepted p ≡ true) (samples : ℕ → List (List ℤ)) (xs : List Blocks)
    (given : ChannelsIn p samples xs) where
  own-factor : (c s : ℕ) → c < channels p → s < 8
      → entry (get_or (factor_rows p.blocks (rows_of xs)) c []) s ≡ factor_of p (λ b. sample_at (samples c) b s)
  own-factor c s hc hs =
      channel-factor p (rows_of xs) _ c s (omega (arith, (channels-range p).1)) hs (λ b hb. given c hc b s hb hs)

  -- ---- no subband is joined
  -- the channels as they are
  plain-coding : join_count p ≡ 0 → CodingIn p samples (plain_coding p xs)
  unfolding plain_coding digit
  plain-coding none =
      let plain = unjoint p a none in
      record {
        flag_is = λ s hs. get_or-replicate 8 s 0 0 hs ∙ sym (ap digit (none-joined p plain samples s));
        factor_is = λ c s hc hs. own-factor c s hc hs ∙ sym (ap (factor_of p) (fun_ext (λ b. coded-alone p plain samples b c s)));
        sample_is = λ b c s hb hc hs. given c hc b s hb hs ∙ sym (coded-alone p plain samples b c s);
      }

  -- ---- subbands may be joined
  module _ (some : 0 < join_count p) where
    -- what the code computes: joined samples, scale factors of both, and the flags
    abbrev joined : ℕ → List (List ℤ)
    joined = joined_samples (rows_of xs)

    abbrev flags : List ℕ
    flags = join_flags p (rows_of xs)

    -- there are two channels
    two : channels p ≡ 2
    two = joins-two p 0 some

    -- sums and differences are the joined samples
    joined-sample : (b c s : ℕ) → b < p.blocks → s < 8 → sample_at (joined c) b s ≡ joined_at samples b c s
    unfolding joined_samples joined_at
    joined-sample b c s hb hs =
        ap (λ (row : List ℤ). get_or row s (pos 0))
        (get_or-build 16 (λ b. build 8 (joined_at (rows_of xs) b c)) b [] (omega (arith, (ranges p a).blocks-high)))
        ∙ get_or-build 8 (joined_at (rows_of xs) b c) s (pos 0) hs
        ∙ rw (given 0 (omega (arith, two)) b s hb hs, given 1 (omega (arith, two)) b s hb hs)

    -- and their scale factors those of the joined samples
    joined-factor : (c s : ℕ) → c < 2 → s < 8
        → entry (get_or (factor_rows p.blocks joined) c []) s ≡ factor_of p (λ b. joined_at samples b c s)
    joined-factor c s hc hs = channel-factor p joined _ c s hc hs (λ b hb. joined-sample b c s hb hs)

    -- a flag is set where a subband is joined
    flag_at : (s : ℕ) → s < 8 → entry flags s ≡ digit (is_joined p samples s)
    unfolding join_row is_joined joined_cost plain_cost
    flag_at s hs =
        get_or-build 8 _ s 0 hs
        ∙ rw (
          joint p some,
          own-factor 0 s (omega (arith, two)) hs,
          own-factor 1 s (omega (arith, two)) hs,
          joined-factor 0 s (omega arith) hs,
          joined-factor 1 s (omega arith) hs,
        )

    -- and tells it
    flag-tells : (s : ℕ) → s < 8 → eqb (entry flags s) 1 ≡ is_joined p samples s
    flag-tells s hs = ap (λ (n : ℕ). eqb n 1) (flag_at s hs) ∙ digit-one (is_joined p samples s)

    -- the scale factors that are picked by the flags are those of what is coded
    coded-factor : (c s : ℕ) → c < channels p → s < 8
        → entry (get_or (picked_rows flags (factor_rows p.blocks (rows_of xs)) (factor_rows p.blocks joined)) c []) s
        ≡ factor_of p (λ b. coded_at p samples b c s)
    unfolding picked_rows picked_row coded_at
    coded-factor c s hc hs =
        ap (λ (row : List ℕ). entry row s) (get_or-build 2 _ c [] (omega (arith, two))) ∙ get_or-build 8 _ s 0 hs
        ∙ rw (flag-tells s hs) (go (is_joined p samples s))
      where
        go : (t : Bool)
            → (if t then entry (get_or (factor_rows p.blocks joined) c []) s else entry (get_or (factor_rows p.blocks (rows_of xs)) c []) s)
            ≡ factor_of p (λ b. if t then joined_at samples b c s else sample_at (samples c) b s)
        go true = joined-factor c s (omega (arith, two)) hs
        go false = own-factor c s hc hs

    -- so are samples that are picked by them
    coded-sample : (b c s : ℕ) → b < p.blocks → c < channels p → s < 8
        → sample_at (rows_of (picked_samples p.blocks flags (rows_of xs) joined) c) b s ≡ coded_at p samples b c s
    unfolding picked_samples coded_at
    coded-sample b c s hb hc hs =
        ap (λ (k : Blocks). sample_at k.rows b s) (get_or-build 2 _ c _ (omega (arith, two)))
        ∙ flagged_in p.blocks flags (sample_at (joined c)) (rows_of xs c) b s hb (ranges p a).blocks-high hs
        ∙ rw (flag-tells s hs, joined-sample b c s hb hs, given c hc b s hb hs)

    -- what the flags choose
    joint-coding : CodingIn p samples (joint_coding p xs)
    unfolding joint_coding
    joint-coding = record { flag_is = flag_at; factor_is = coded-factor; sample_is = coded-sample }

-- ---- what is coded of a frame is what `coded_at` says
pub coding-in : (p : SbcParameters) → accepted p ≡ true → (samples : ℕ → List (List ℤ)) (xs : List Blocks) → ChannelsIn p samples xs
    → CodingIn p samples (coding_of p xs)
unfolding coding_of
coding-in p a samples xs given =
    by-test (CodingIn p samples) (eqb (join_count p) 0) (plain_coding p xs) (joint_coding p xs)
    (λ e. plain-coding p a samples xs given (eqb-true (join_count p) 0 e))
    (λ e. joint-coding p a samples xs given (let ne = eqb-false (join_count p) 0 e in omega arith))
