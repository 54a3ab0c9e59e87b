-- What is known of an accepted set: mSBC's own, or each field among its listed values; and the sizes of its frame.
-- Assumes nothing.
use Prim.Native.Nat.{ℕ, zero, suc, ◌*◌, ◌≤◌, ◌<◌}
use mathlib.Core.Path.{◌≡◌, refl}
use mathlib.Core.Bool.{Bool, true, false, ◌&&◌}
use mathlib.Core.HLevel.{is_prop→PathP}
use mathlib.Core.List.{[], ◌∷◌}
use Rattle.std.proofs.Math.Bool.{Bool-set}
use native.Mathlib.Omega.{arith}
use native.Mathlib.Nat.{mul-le-mul, le_refl}
use lib.Dec.{lit<, lit≤, leb, ltb}
use lib.ListN.{get_or}
use borrow.Author.Tests.{eqb-true, leb-true, ltb-true}
use Rattle.laws.specs.Lists.{all_of, index_of, listed}
use Rattle.laws.proofs.Tests.{all_true, and-true, listed-cases}
use Rattle.sbc_modes.proofs.Numbers.{mono, loudness, channels-of-range}
use Rattle.sbc_parameters.specs.Parameters.{channels, sample_rates, block_counts, subband_counts, maximum_bitpool, is_msbc, msbc, msbc_tests, field_tests, accepted}
use Rattle.sbc_parameters.specs.Sizes.{join_count, block_bits, audio_bits, frame_length, samples_per_channel, frame_samples}
use Rattle.sbc_parameters.specs.Sizes.{largest_set, maximum_frame_length, maximum_frame_samples, LargestFrame}
use Rattle.sbc_parameters.specs.declared.SbcParameters.{SbcParameters}
use Rattle.sbc_parameters.specs.declared.accepted_set.AcceptedSet.{AcceptedSet}
use Rattle.sbc_modes.specs.declared.SbcChannelMode.{SbcChannelMode}
use Rattle.sbc_modes.specs.declared.SbcChannelMode.TheVariants.{Mono, DualChannel, Stereo, JointStereo}

-- ---- the fields of an accepted set that is not mSBC
pub record Fields (p : SbcParameters) : Type 0 where
  pub rate : listed p.sample_rate sample_rates ≡ true
  pub block : listed p.blocks block_counts ≡ true
  pub subband : listed p.subbands subband_counts ≡ true
  pub bitpool-low : 2 ≤ p.bitpool
  pub bitpool-high : p.bitpool ≤ maximum_bitpool p
  pub bitpool-byte : p.bitpool < 256

pub fields : (p : SbcParameters) → is_msbc p ≡ false → accepted p ≡ true → Fields p
unfolding accepted field_tests
fields p m a =
    let e : all_of (field_tests p) ≡ true = rw m at a in
    record {
      rate = all_true (field_tests p) 0 e;
      block = all_true (field_tests p) 1 e;
      subband = all_true (field_tests p) 2 e;
      bitpool-low = leb-true _ _ (all_true (field_tests p) 3 e);
      bitpool-high = leb-true _ _ (all_true (field_tests p) 4 e);
      bitpool-byte = ltb-true _ _ (all_true (field_tests p) 5 e);
    }

-- ---- 15 blocks are exactly mSBC
pub is-msbc : (p : SbcParameters) → is_msbc p ≡ true → accepted p ≡ true → p ≡ msbc
unfolding accepted msbc_tests is_msbc msbc
is-msbc p m a =
    let e : all_of (msbc_tests p) ≡ true = rw m at a in
    let rate = eqb-true _ _ (all_true (msbc_tests p) 0 e) in
    let mode = mono p.channel_mode (eqb-true _ _ (all_true (msbc_tests p) 1 e)) in
    let allocation = loudness p.allocation (eqb-true _ _ (all_true (msbc_tests p) 2 e)) in
    let blocks = eqb-true _ _ m in
    let subbands = eqb-true _ _ (all_true (msbc_tests p) 3 e) in
    let bitpool = eqb-true _ _ (all_true (msbc_tests p) 4 e) in
    λ i.
    record {
      sample_rate = rate i;
      channel_mode = mode i;
      allocation = allocation i;
      blocks = blocks i;
      subbands = subbands i;
      bitpool = bitpool i;
    }

-- what holds of mSBC and of each set with listed fields holds of an accepted set
pub accepted-cases : (P : SbcParameters → Type 0) (p : SbcParameters) → accepted p ≡ true → P msbc → (Fields p → P p) → P p
accepted-cases P p a m f = go (is_msbc p) refl
  where
    go : (t : Bool) → is_msbc p ≡ t → P p
    go true e = rw (is-msbc p e a) m
    go false e = f (fields p e a)

pub msbc-accepted : accepted msbc ≡ true
unfolding accepted is_msbc msbc msbc_tests all_of
msbc-accepted = refl

-- ---- the values of the fields
pub record Ranges (p : SbcParameters) : Type 0 where
  pub blocks-low : 4 ≤ p.blocks
  pub blocks-high : p.blocks ≤ 16
  pub subbands-low : 4 ≤ p.subbands
  pub subbands-high : p.subbands ≤ 8
  pub bitpool-low : 2 ≤ p.bitpool
  pub bitpool-high : p.bitpool ≤ maximum_bitpool p
  pub bitpool-byte : p.bitpool < 256

-- 4 or 8 subbands
pub subbands-cases : (P : ℕ → Type 0) (p : SbcParameters) → accepted p ≡ true → P 4 → P 8 → P p.subbands
unfolding msbc subband_counts
subbands-cases P p a four eight = accepted-cases (λ q. P q.subbands) p a eight (λ k. listed-cases P p.subbands subband_counts k.subband each)
  where
    each : (i : ℕ) → i < 2 → P (get_or subband_counts i 0)
    each zero h = four
    each (suc zero) h = eight
    each (suc (suc i)) h = absurd (omega arith)

four-up : (i : ℕ) → i < 4 → (4 ≤ get_or block_counts i 0) × (get_or block_counts i 0 ≤ 16)
unfolding block_counts
four-up zero h = (lit≤ tt, lit≤ tt)
four-up (suc zero) h = (lit≤ tt, lit≤ tt)
four-up (suc (suc zero)) h = (lit≤ tt, lit≤ tt)
four-up (suc (suc (suc zero))) h = (lit≤ tt, lit≤ tt)
four-up (suc (suc (suc (suc i)))) h = absurd (omega arith)

pub ranges : (p : SbcParameters) → accepted p ≡ true → Ranges p
unfolding msbc maximum_bitpool block_counts
ranges p a =
    accepted-cases Ranges p a
    (record {
      blocks-low = lit≤ tt;
      blocks-high = lit≤ tt;
      subbands-low = lit≤ tt;
      subbands-high = lit≤ tt;
      bitpool-low = lit≤ tt;
      bitpool-high = lit≤ tt;
      bitpool-byte = lit< tt;
    })
    (λ k.
    let b = listed-cases (λ n. (4 ≤ n) × (n ≤ 16)) p.blocks block_counts k.block four-up in
    let s = subbands-cases (λ n. (4 ≤ n) × (n ≤ 8)) p a (lit≤ tt, lit≤ tt) (lit≤ tt, lit≤ tt) in
    record {
      blocks-low = b.0;
      blocks-high = b.1;
      subbands-low = s.0;
      subbands-high = s.1;
      bitpool-low = k.bitpool-low;
      bitpool-high = k.bitpool-high;
      bitpool-byte = k.bitpool-byte;
    })

-- ---- the sizes of an accepted frame: 7 to 524 bytes, 16 to 256 samples
pub frame-length-range : (p : SbcParameters) → accepted p ≡ true → (7 ≤ frame_length p) × (frame_length p ≤ 524)
unfolding frame_length audio_bits join_count block_bits maximum_bitpool
frame-length-range p a = go p.channel_mode refl
  where
    r : Ranges p
    r = ranges p a

    -- the bits of all blocks, from w bits of one
    lower : (w : ℕ) → 4 * w ≤ p.blocks * w
    lower w = mul-le-mul {n₁ = 4} {m₁ = w} r.blocks-low (le_refl w)

    upper : (w : ℕ) → p.blocks * w ≤ 16 * w
    upper w = mul-le-mul {n₂ = 16} {m₂ = w} r.blocks-high (le_refl w)

    go : (m : SbcChannelMode) → p.channel_mode ≡ m → (7 ≤ frame_length p) × (frame_length p ≤ 524)
    go Mono e =
        let h : p.bitpool ≤ 16 * p.subbands = rw e at r.bitpool-high in
        let x = 1 * p.bitpool in
        rw e (omega (arith, lower x, upper x, h, r), omega (arith, lower x, upper x, h, r))
    go DualChannel e =
        let h : p.bitpool ≤ 16 * p.subbands = rw e at r.bitpool-high in
        let x = 2 * p.bitpool in
        rw e (omega (arith, lower x, upper x, h, r), omega (arith, lower x, upper x, h, r))
    go Stereo e = rw e (omega (arith, lower p.bitpool, upper p.bitpool, r), omega (arith, lower p.bitpool, upper p.bitpool, r))
    go JointStereo e = rw e (omega (arith, lower p.bitpool, upper p.bitpool, r), omega (arith, lower p.bitpool, upper p.bitpool, r))

-- 1 or 2 channels
pub channels-range : (p : SbcParameters) → (1 ≤ channels p) × (channels p ≤ 2)
channels-range p = channels-of-range p.channel_mode

pub frame-samples-range : (p : SbcParameters) → accepted p ≡ true → (16 ≤ frame_samples p) × (frame_samples p ≤ 256)
unfolding samples_per_channel frame_samples
frame-samples-range p a =
    let r = ranges p a in
    let c = channels-range p in
    let low : 4 * 4 ≤ p.blocks * p.subbands = mul-le-mul r.blocks-low r.subbands-low in
    let high : p.blocks * p.subbands ≤ 16 * 8 = mul-le-mul r.blocks-high r.subbands-high in
    (mul-le-mul {n₁ = 16} {m₁ = 1} low c.0, mul-le-mul {n₂ = 128} {m₂ = 2} high c.1)

-- ---- the greatest of these sizes are those of the largest set
pub maximum-length : maximum_frame_length ≡ 524
unfolding maximum_frame_length largest_set frame_length audio_bits join_count block_bits
maximum-length = refl

pub maximum-samples : maximum_frame_samples ≡ 256
unfolding maximum_frame_samples largest_set frame_samples samples_per_channel
maximum-samples = refl

largest-taken : accepted largest_set ≡ true
unfolding accepted is_msbc field_tests all_of listed index_of sample_rates block_counts subband_counts maximum_bitpool largest_set
largest-taken = refl

pub largest-frame : LargestFrame
largest-frame =
    record {
      taken = largest-taken;
      length = λ p a. rw maximum-length (frame-length-range p a).1;
      samples = λ p a. rw maximum-samples (frame-samples-range p a).1;
    }

-- ---- a set that is known to be accepted is determined by the set
pub set-determines : (a b : AcceptedSet) → a.set ≡ b.set → a ≡ b
set-determines a b e =
    λ i. record {
      set = e i;
      is_accepted = is_prop→PathP (λ j. accepted (e j) ≡ true) (λ j. Bool-set (accepted (e j)) true) a.is_accepted b.is_accepted i;
    }

-- ---- the tests of the fields, one behind the other
pub listed-fields : (p : SbcParameters) → all_of (field_tests p)
    ≡ (listed p.sample_rate (16000 ∷ 32000 ∷ 44100 ∷ 48000 ∷ []) && (listed p.blocks (4 ∷ 8 ∷ 12 ∷ 16 ∷ []) && (listed p.subbands (4 ∷ 8 ∷ [])
    && (leb 2 p.bitpool && (leb p.bitpool (maximum_bitpool p) && ltb p.bitpool 256)))))
unfolding all_of field_tests sample_rates block_counts subband_counts
listed-fields p = rw and-true

pub ruleset listing = (listed-fields)
