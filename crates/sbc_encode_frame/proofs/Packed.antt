-- What the code writes of a frame is the frame's bytes: its rows and samples are the fields of the definition, and their bits in the order of
-- the code are the bits of the body.
-- Assumes nothing.
use Prim.Native.Nat.{ℕ, zero, suc, ◌-◌, ◌*◌, ◌≤◌, ◌<◌}
use mathlib.Core.Path.{◌≡◌, refl, sym, ap, ap₂, subst, ◌∙◌}
use mathlib.Core.Logic.{◌⊎◌, inl, inr}
use mathlib.Core.Bool.{Bool, true, false}
use mathlib.Core.List.{List, [], ◌∷◌, ◌++◌, append_assoc, append-nil}
use native.Mathlib.Nat.{le_of_suc-le-suc, eq-or-lt_of_le}
use native.Mathlib.Omega.{arith}
use lib.Dec.{ltb}
use lib.IntN.{ℤ}
use lib.ListN.{length, get_or}
use borrow.Author.Tests.{ltb-true, ltb-false}
use Rattle.std.specs.Prelude.{if◌then◌else◌}
use Rattle.laws.specs.Lists.{collect, build}
use Rattle.laws.specs.Bits.{odd, digit, bits_of}
use Rattle.laws.proofs.Lists.{length-build, get_or-build}
use Rattle.crc8.specs.Checksum.{checksum}
use Rattle.sbc_parameters.specs.declared.SbcParameters.{SbcParameters}
use Rattle.sbc_parameters.specs.Parameters.{channels, accepted}
use Rattle.sbc_parameters.specs.Sizes.{join_count, side_bits, frame_length, samples_per_channel}
use Rattle.sbc_parameters.specs.Header.{header}
use Rattle.sbc_parameters.proofs.Accepted.{channels-range, ranges}
use Rattle.sbc_allocation.specs.Allocate.{allocation_table}
use Rattle.sbc_quantizer.specs.Quantizing.{quantize}
use Rattle.sbc_frame.specs.Fields.{Fields, factor_at, value_at, width_at}
use Rattle.sbc_frame.specs.Layout.{flag_bits, channel_factor_bits, factor_bits, channel_value_bits, block_value_bits, value_bits}
use Rattle.sbc_frame.specs.Layout.{body_bits, filled, body, pack}
use Rattle.sbc_frame.specs.Channels.{pcm_in, channel_pcm, no_analysis, analyze_blocks, analysis_after}
use Rattle.sbc_frame.specs.Encoding.{channel_samples, analysis_histories, sample_at, factor_of, is_joined, coded_at, coded_factors, coded_values, coded_fields}
use Rattle.sbc_frame.specs.Arrays.{entry, rows_of, samples_array}
use Rattle.sbc_frame.specs.declared.blocks.Blocks.{Blocks}
use Rattle.sbc_frame.specs.declared.CodedFrame.{CodedFrame}
use Rattle.sbc_code.specs.Coding.{Coded, coded, coding_of, ChannelsIn, CodingIn}
use Rattle.sbc_code.proofs.Chosen.{coding-in}
use Rattle.sbc_write.specs.Writing.{row_bits, block_bits_of, value_bits_of}
use Rattle.sbc_write.proofs.Fields.{collect-ext}
use Rattle.sbc_write_frame.specs.Framing.{coding_bits, coding_bytes}
use Rattle.sbc_frame.proofs.Widths.{Enough, rows-enough, allocate-agree, table-width, width-none, width-absent}
use Rattle.sbc_frame.proofs.Sizes.{row-sizes}
use Rattle.sbc_frame.proofs.Columns.{array_holds}

-- ---- lists end to end
-- nothing from n on
collect-rest : (n m : ℕ) (f : ℕ → List Bool) → n ≤ m → ((i : ℕ) → n ≤ i → i < m → f i ≡ []) → collect m f ≡ collect n f
unfolding collect
collect-rest n zero f h z = let e : n ≡ 0 = omega arith in rw e
collect-rest n (suc m) f h z = go (eq-or-lt_of_le h) (λ l. collect-rest n m f l (λ i a b. z i a (omega arith)))
  where
    go : (n ≡ suc m) ⊎ (n < suc m) → (n ≤ m → collect m f ≡ collect n f) → collect m f ++ f m ≡ collect n f
    go (inl e) rec = rw e
    go (inr l) rec =
        ap (λ xs. collect m f ++ xs) (z m (le_of_suc-le-suc l) (omega arith)) ∙ append-nil (collect m f) ∙ rec (le_of_suc-le-suc l)

collect-none : (m : ℕ) (f : ℕ → List Bool) → ((i : ℕ) → i < m → f i ≡ []) → collect m f ≡ []
unfolding collect
collect-none m f z = collect-rest 0 m f (omega arith) (λ i _ h. z i h)

-- of one channel, and of two
collect-one : (f : ℕ → List Bool) → collect 1 f ≡ f 0
unfolding collect
collect-one f = refl

collect-two : (f : ℕ → List Bool) → collect 2 f ≡ f 0 ++ f 1
unfolding collect
collect-two f = refl

-- no rows and no bits
rows_none : (row : List ℕ) (width : ℕ) → row_bits row width 0 ≡ []
unfolding row_bits collect
rows_none row width = refl

no_bits : {n : ℕ} → n ≡ 0 → (v : ℕ) → bits_of n v ≡ []
unfolding bits_of
no_bits e v = rw e

-- a flag is one bit
flag-bit : (b : Bool) → bits_of 1 (digit b) ≡ b ∷ []
unfolding bits_of digit odd
flag-bit true = refl
flag-bit false = refl

module _ (p : SbcParameters) (a : accepted p ≡ true) (samples : ℕ → List (List ℤ)) (k : Coded) (held : CodingIn p samples k)
    (long : (c : ℕ) → c < 2 → length (get_or k.factors c []) ≡ 8) where
  abbrev fields : Fields
  fields = coded_fields p samples

  abbrev table : List (List ℕ)
  table = allocation_table p k.factors

  abbrev factors : ℕ → List ℕ
  factors c = get_or k.factors c []

  -- ---- join flags
  flags-packed : row_bits k.flags 1 (join_count p) ≡ flag_bits p fields
  unfolding row_bits flag_bits coded_fields
  flags-packed =
      collect-ext (join_count p) _ _
      (λ s hs. ap (bits_of 1) (held.flag_is s (omega (arith, (row-sizes p a).joins-high))) ∙ flag-bit (is_joined p samples s)
      ∙ ap (λ (b : Bool). b ∷ []) (sym (get_or-build (join_count p) (is_joined p samples) s false hs)))

  -- ---- scale factors
  factor-there : (c s : ℕ) → c < channels p → s < p.subbands → factor_at fields c s ≡ factor_of p (λ b. coded_at p samples b c s)
  unfolding coded_fields coded_factors
  factor-there c s hc hs =
      ap (λ (row : List ℕ). get_or row s 0)
      (get_or-build (channels p) (λ c. build p.subbands (λ s. factor_of p (λ b. coded_at p samples b c s))) c [] hc)
      ∙ get_or-build p.subbands (λ s. factor_of p (λ b. coded_at p samples b c s)) s 0 hs

  factor-same : (c s : ℕ) → c < channels p → s < p.subbands → entry (factors c) s ≡ factor_at fields c s
  factor-same c s hc hs = held.factor_is c s hc (omega (arith, (ranges p a).subbands-high)) ∙ sym (factor-there c s hc hs)

  row-packed : (c : ℕ) → c < channels p → row_bits (factors c) 4 p.subbands ≡ channel_factor_bits p fields c
  unfolding row_bits channel_factor_bits
  row-packed c hc = collect-ext p.subbands _ _ (λ s hs. ap (bits_of 4) (factor-same c s hc hs))

  -- one channel's, or both
  factors-packed : row_bits (factors 0) 4 p.subbands ++ row_bits (factors 1) 4 (p.subbands * (channels p - 1)) ≡ factor_bits p fields
  unfolding factor_bits
  factors-packed = go (ltb 1 (channels p)) refl
    where
      go : (t : Bool) → ltb 1 (channels p) ≡ t
          → row_bits (factors 0) 4 p.subbands ++ row_bits (factors 1) 4 (p.subbands * (channels p - 1))
          ≡ collect (channels p) (channel_factor_bits p fields)
      go true e =
          let h = ltb-true 1 (channels p) e in
          let two : channels p ≡ 2 = omega (arith, (channels-range p).1) in
          let all : p.subbands * (channels p - 1) ≡ p.subbands = rw two (omega arith) in
          ap₂ {C = List Bool} (λ xs ys. xs ++ ys) (row-packed 0 (omega arith)) (ap (row_bits (factors 1) 4) all ∙ row-packed 1 h)
          ∙ sym (collect-two (channel_factor_bits p fields)) ∙ ap (λ (n : ℕ). collect n (channel_factor_bits p fields)) (sym two)
      go false e =
          let one : channels p ≡ 1 = omega (arith, ltb-false 1 (channels p) e, (channels-range p).0) in
          let zeros : p.subbands * (channels p - 1) ≡ 0 = rw one (omega arith) in
          ap₂ {C = List Bool} (λ xs ys. xs ++ ys) (row-packed 0 (omega arith)) (ap (row_bits (factors 1) 4) zeros ∙ rows_none (factors 1) 4)
          ∙ append-nil (channel_factor_bits p fields 0)
          ∙ sym (collect-one (channel_factor_bits p fields)) ∙ ap (λ (n : ℕ). collect n (channel_factor_bits p fields)) (sym one)

  -- ---- values
  enough-rows : Enough p k.factors
  enough-rows = rows-enough p a k.factors long

  enough-coded : Enough p fields.factors
  unfolding coded_fields coded_factors
  enough-coded c hc =
      let row : ℕ → List ℕ = λ c. build p.subbands (λ s. factor_of p (λ b. coded_at p samples b c s)) in
      let e : length (get_or (build (channels p) row) c []) ≡ p.subbands = ap length (get_or-build (channels p) row c [] hc) ∙ length-build p.subbands _ in
      omega (arith, e)

  width_same : (c s : ℕ) → c < 2 → s < 8 → entry (get_or table c []) s ≡ width_at p fields.factors c s
  unfolding width_at
  width_same c s hc hs =
      table-width p a k.factors enough-rows c s hc hs
      ∙ ap (λ (t : List (List ℕ)). get_or (get_or t c []) s 0) (allocate-agree p k.factors fields.factors enough-rows enough-coded factor-same)

  value_there : (b c s : ℕ) → b < p.blocks → c < channels p → s < p.subbands
      → value_at fields b c s ≡ quantize (coded_at p samples b c s) (factor_at fields c s) (width_at p fields.factors c s)
  unfolding coded_fields coded_values
  value_there b c s hb hc hs =
      let factors : List (List ℕ) = coded_factors p samples in
      let value : ℕ → ℕ → ℕ → ℕ = λ b c s. quantize (coded_at p samples b c s) (get_or (get_or factors c []) s 0) (width_at p factors c s) in
      ap (λ (rows : List (List ℕ)). get_or (get_or rows c []) s 0)
      (get_or-build p.blocks (λ b. build (channels p) (λ c. build p.subbands (value b c))) b [] hb)
      ∙ ap (λ (row : List ℕ). get_or row s 0) (get_or-build (channels p) (λ c. build p.subbands (value b c)) c [] hc)
      ∙ get_or-build p.subbands (value b c) s 0 hs

  abbrev written : ℕ → ℕ → List Bool
  written b c = block_bits_of (get_or (rows_of k.samples c) b []) (get_or table c []) (factors c)

  channel-packed : (b c : ℕ) → b < p.blocks → c < channels p → written b c ≡ channel_value_bits p fields b c
  unfolding block_bits_of channel_value_bits
  channel-packed b c hb hc =
      let two : c < 2 = omega (arith, (channels-range p).1) in
      let most = (ranges p a).subbands-high in
      collect-rest p.subbands 8 _ most
      (λ s hs h8. no_bits (width_same c s two h8 ∙ width-none p a fields.factors enough-coded c s hc hs) _)
      ∙ collect-ext p.subbands _ _
      (λ s hs.
      let eight : s < 8 = omega arith in
      let w = width_same c s two eight in
      ap₂ {C = List Bool} bits_of w
      ((λ i. quantize (held.sample_is b c s hb hc eight i) (factor-same c s hc hs i) (w i)) ∙ sym (value_there b c s hb hc hs)))

  -- a channel that there is not has none
  absent-packed : (b c : ℕ) → channels p ≤ c → c < 2 → written b c ≡ []
  unfolding block_bits_of
  absent-packed b c h two =
      collect-none 8 _ (λ s h8. no_bits (width_same c s two h8 ∙ width-absent p a fields.factors enough-coded c s h) _)

  block-packed : (b : ℕ) → b < p.blocks → collect 2 (written b) ≡ block_value_bits p fields b
  unfolding block_value_bits
  block-packed b hb =
      collect-rest (channels p) 2 (written b) (channels-range p).1 (absent-packed b)
      ∙ collect-ext (channels p) (written b) (channel_value_bits p fields b) (λ c hc. channel-packed b c hb hc)

  values-packed : value_bits_of k.samples table k.factors p.blocks ≡ value_bits p fields
  unfolding value_bits_of value_bits
  values-packed = collect-ext p.blocks _ _ block-packed

  -- ---- the frame
  bits-packed : coding_bits p k.flags k.factors k.samples ≡ body_bits p fields
  unfolding coding_bits body_bits
  bits-packed =
      ap₂ {C = List Bool} (λ xs ys. xs ++ ys) flags-packed
      (sym (append_assoc (row_bits (factors 0) 4 p.subbands) (row_bits (factors 1) 4 (p.subbands * (channels p - 1))) _)
      ∙ ap₂ {C = List Bool} (λ xs ys. xs ++ ys) factors-packed values-packed)

  frame-packed : coding_bytes p k.flags k.factors k.samples ≡ pack p fields
  unfolding coding_bytes pack body
  frame-packed =
      ap (λ (bits : List Bool).
      let rest = filled (frame_length p - 4) bits in
      header p ++ (checksum (header p ++ (0 ∷ rest)) (side_bits p) ∷ rest)) bits-packed

-- ---- what is coded of the channels' samples
-- an array of their rows holds them
arrays-hold : (p : SbcParameters) → accepted p ≡ true → (samples : ℕ → List (List ℤ)) (xs : List Blocks)
    → ((c : ℕ) → c < channels p → rows_of xs c ≡ samples_array p.blocks (samples c)) → ChannelsIn p samples xs
arrays-hold p a samples xs given c hc b s hb hs =
    ap (λ (rows : List (List ℤ)). sample_at rows b s) (given c hc) ∙ array_holds p.blocks (samples c) (ranges p a).blocks-high b s hb hs

-- its bytes are the frame
pub coding-packed : (p : SbcParameters) → accepted p ≡ true → (samples : ℕ → List (List ℤ)) (xs : List Blocks)
    → ((c : ℕ) → c < channels p → rows_of xs c ≡ samples_array p.blocks (samples c))
    → (k : CodedFrame) → coded k ≡ coding_of p xs → coding_bytes p k.flags k.factors.rows k.samples ≡ pack p (coded_fields p samples)
coding-packed p a samples xs given k e =
    frame-packed p a samples (coded k) (subst (CodingIn p samples) (sym e) (coding-in p a samples xs (arrays-hold p a samples xs given)))
    k.factors.long

-- ---- a frame from PCM, as the call for its channels says it: k blocks of S samples, C channels
module _ (p : SbcParameters) (H : List (List ℤ)) (input : List ℤ) {C k S : ℕ} (e : C ≡ channels p) (f : k ≡ p.blocks) (g : S ≡ p.subbands) where
  pub histories-given : build 2
      (λ c. if ltb c C then analysis_after k S (get_or H c no_analysis) (pcm_in C c (k * S) input) else get_or H c no_analysis)
      ≡ analysis_histories p H input
  unfolding analysis_histories channel_pcm samples_per_channel
  histories-given = rw (e, f, g) refl

  pub samples-given : (c : ℕ) → samples_array k (analyze_blocks k S (get_or H c no_analysis) (pcm_in C c (k * S) input))
      ≡ samples_array p.blocks (channel_samples p H input c)
  unfolding channel_samples channel_pcm samples_per_channel
  samples-given c = rw (e, f, g) refl
