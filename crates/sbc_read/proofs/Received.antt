-- What the code reads of a received frame, in rows of eight and by running positions, is what `unpack` reads, and it is small.
-- Assumes nothing.
use Prim.Native.Nat.{ℕ, ◌+◌, ◌-◌, ◌*◌, ◌%◌, ◌^◌, ◌≤◌, ◌<◌}
use mathlib.Core.Path.{◌≡◌, refl, sym, ap, ap₂, ◌∙◌}
use mathlib.Core.Bool.{Bool, true, false, false≢true}
use mathlib.Core.List.{List, [], ◌++◌}
use native.Mathlib.Omega.{arith}
use lib.Dec.{eqb, ltb}
use lib.IntN.{ℤ, pos, nat_abs}
use lib.ListN.{length, get_or, replicate}
use borrow.Author.Tests.{ltb-true, ltb-false, lt-ltb}
use Rattle.std.specs.Prelude.{if◌then◌else◌}
use Rattle.laws.specs.Lists.{build, total}
use Rattle.laws.specs.Bits.{odd, bits_of_bytes, number_of}
use Rattle.laws.proofs.Bits.{length-bits_of_bytes, bits-of-append}
use Rattle.laws.proofs.Lists.{length-build, get_or-build, get_or-build-out, build-all, total_ext}
use Rattle.laws.proofs.Parts.{part-front}
use Rattle.bits.specs.Fields.{number_at}
use Rattle.bits.proofs.Windows.{number-at-lt}
use Rattle.sbc_parameters.specs.declared.SbcParameters.{SbcParameters}
use Rattle.sbc_parameters.specs.Parameters.{channels, accepted}
use Rattle.sbc_parameters.specs.Sizes.{join_count, side_bits, block_bits, frame_length}
use Rattle.sbc_parameters.proofs.Accepted.{channels-range, ranges}
use Rattle.sbc_quantizer.proofs.Steps.{reconstruct-bound}
use Rattle.sbc_frame.specs.Fields.{join_at, factor_at, value_at, width_at, channel_width}
use Rattle.sbc_frame.specs.Layout.{factor_position, value_position, read_join, read_factors, unpack}
use Rattle.sbc_frame.specs.Encoding.{sample_at}
use Rattle.sbc_frame.specs.Decoding.{reconstructed_at, decoded_at}
use Rattle.sbc_frame.specs.Arrays.{samples_array, entry, rows_of, Small, with_flagged}
use Rattle.sbc_frame.specs.declared.blocks.Blocks.{Blocks}
use Rattle.sbc_frame.proofs.Sizes.{joins-two, joins-le}
use Rattle.sbc_frame.proofs.Widths.{Enough, rows-enough, block-width, allocate-agree, table-width, width-none, width-absent, row-width}
use Rattle.sbc_frame.proofs.Positions.{flags-inside, factor-inside, value-inside}
use Rattle.sbc_frame.proofs.Reading.{enough-factors, read-value}
use Rattle.sbc_frame.proofs.Columns.{row_in, array_holds}
use Rattle.sbc_frame.proofs.Flagged.{flagged_array}
use Rattle.sbc_read.specs.Reading.{flag_row, factor_row, width_row, start, value_of, channel_values, read_samples, channel_array}
use Rattle.sbc_read.specs.Reading.{sum_or_difference, restored_at}
use Rattle.sbc_read.proofs.Arrays.{channel_value, value_none, values_at, channel_rows, rows_there, rows_absent, rows_behind}
use Rattle.sbc_read.proofs.Rows.{row_entry, row_rest, factors_long}

module _ (p : SbcParameters) (a : accepted p ≡ true) (frame : List ℕ) (long : length frame ≡ frame_length p) where
  -- the frame with zeros behind it, and the rows of its scale factors
  abbrev pub bytes_of : List ℕ
  bytes_of = frame ++ replicate (528 - length frame) 0

  abbrev pub factors_of : List (List ℕ)
  factors_of = build 2 (factor_row p bytes_of)

  -- a number of the frame is not changed by what stands behind it
  number-inside : (position n : ℕ) → position + n ≤ 8 * frame_length p → number_at bytes_of position n ≡ number_at frame position n
  unfolding number_at
  number-inside position n h =
      ap number_of
      (rw bits-of-append
      (part-front (bits_of_bytes frame) (bits_of_bytes (replicate (528 - length frame) 0)) position n
      (omega (arith, length-bits_of_bytes frame, long))))

  -- ---- join flags
  flag-odd : (v : ℕ) → v < 2 → eqb v 1 ≡ odd v
  unfolding odd
  flag-odd v h = let e : v ≡ v % 2 = omega arith in ap (λ n. eqb n 1) e

  flag_is : (s : ℕ) → eqb (entry (flag_row p bytes_of) s) 1 ≡ join_at (unpack p frame) s
  unfolding unpack read_join
  flag_is s = go (ltb s (join_count p)) refl
    where
      go : (t : Bool) → ltb s (join_count p) ≡ t
          → eqb (entry (flag_row p bytes_of) s) 1 ≡ get_or (build (join_count p) (λ s. odd (number_at frame (32 + s) 1))) s false
      go true e =
          let h = ltb-true s (join_count p) e in
          let r = ranges p a in
          let here : entry (flag_row p bytes_of) s ≡ number_at frame (32 + s) 1 =
          row_entry bytes_of 32 1 (join_count p) s h (omega (arith, joins-le p, r.subbands-high))
          ∙ ap (λ n. number_at bytes_of n 1) (omega arith)
          ∙ number-inside (32 + s) 1 (omega (arith, flags-inside p)) in
          ap (λ n. eqb n 1) here ∙ flag-odd _ (number-at-lt frame (32 + s) 1)
          ∙ sym (get_or-build (join_count p) (λ s. odd (number_at frame (32 + s) 1)) s false h)
      go false e =
          let h = ltb-false s (join_count p) e in
          ap (λ n. eqb n 1) (row_rest bytes_of 32 1 (join_count p) s h)
          ∙ sym (get_or-build-out (join_count p) (λ s. odd (number_at frame (32 + s) 1)) s false h)

  -- a set flag stands for a subband that there is, and for two channels
  flag-low : (s : ℕ) → join_at (unpack p frame) s ≡ true → s < join_count p
  unfolding unpack read_join
  flag-low s e = go (ltb s (join_count p)) refl
    where
      go : (t : Bool) → ltb s (join_count p) ≡ t → s < join_count p
      go true h = ltb-true s (join_count p) h
      go false h =
          absurd (false≢true
          (sym (get_or-build-out (join_count p) (λ s. odd (number_at frame (32 + s) 1)) s false (ltb-false s (join_count p) h)) ∙ e))

  flag-clear : (c s : ℕ) → c < 2 → (c < channels p → p.subbands ≤ s) → join_at (unpack p frame) s ≡ false
  flag-clear c s hc out = go (join_at (unpack p frame) s) refl
    where
      go : (t : Bool) → join_at (unpack p frame) s ≡ t → t ≡ false
      go true e =
          let low = flag-low s e in
          absurd (omega (arith, low, joins-le p, joins-two p s low, out (omega (arith, joins-two p s low))))
      go false e = refl

  -- ---- scale factors
  factor-there : (c s : ℕ) → c < channels p → s < p.subbands → factor_at (unpack p frame) c s ≡ number_at frame (factor_position p c s) 4
  unfolding unpack read_factors
  factor-there c s hc hs =
      ap (λ l. get_or l s 0) (get_or-build (channels p) (λ c. build p.subbands (λ s. number_at frame (factor_position p c s) 4)) c [] hc)
      ∙ get_or-build p.subbands (λ s. number_at frame (factor_position p c s) 4) s 0 hs

  factor_place : (c s : ℕ) → factor_position p c 0 + s * 4 ≡ factor_position p c s
  unfolding factor_position
  factor_place c s = omega arith

  factor_is : (c s : ℕ) → c < channels p → s < p.subbands → entry (get_or factors_of c []) s ≡ factor_at (unpack p frame) c s
  factor_is c s hc hs =
      ap (λ l. get_or l s 0)
      (get_or-build 2 (factor_row p bytes_of) c [] (omega (arith, (channels-range p).1)) ∙ rw (lt-ltb c (channels p) hc))
      ∙ row_entry bytes_of (factor_position p c 0) 4 p.subbands s hs (ranges p a).subbands-high
      ∙ ap (λ n. number_at bytes_of n 4) (factor_place c s)
      ∙ number-inside (factor_position p c s) 4 (factor-inside p a c s hc hs)
      ∙ sym (factor-there c s hc hs)

  -- ---- widths
  rows_long : (c : ℕ) → c < 2 → length (get_or factors_of c []) ≡ 8
  rows_long = factors_long p bytes_of (channels p) factors_of refl

  enough-rows : Enough p factors_of
  enough-rows = rows-enough p a factors_of rows_long

  widths-same : (c s : ℕ) → width_at p factors_of c s ≡ width_at p (read_factors p frame) c s
  unfolding width_at unpack
  widths-same c s =
      ap (λ (t : List (List ℕ)). get_or (get_or t c []) s 0)
      (allocate-agree p factors_of (read_factors p frame) enough-rows (enough-factors p frame) factor_is)

  -- the width of a value, for every entry of the table
  width_is : (c s : ℕ) → c < 2 → s < 8 → entry (width_row p factors_of c) s ≡ width_at p (read_factors p frame) c s
  width_is c s hc hs = table-width p a factors_of enough-rows c s hc hs ∙ widths-same c s

  channel-same : (c : ℕ) → c < channels p → total 8 (entry (width_row p factors_of c)) ≡ channel_width p (read_factors p frame) c
  unfolding channel_width
  channel-same c hc = row-width p a factors_of enough-rows c hc ∙ total_ext p.subbands _ _ (λ s _. widths-same c s)

  -- ---- values
  -- where a channel's part of a block begins
  start_is : (c : ℕ) → c < channels p → start p factors_of c ≡ 32 + side_bits p + total c (channel_width p (read_factors p frame))
  start_is c hc = ap (λ n. 32 + side_bits p + n) (total_ext c _ _ (λ d h. channel-same d (omega arith)))

  place_is : (b c s : ℕ) → c < channels p → s < p.subbands
      → start p factors_of c + total s (entry (width_row p factors_of c)) + b * block_bits p ≡ value_position p (read_factors p frame) b c s
  unfolding value_position
  place_is b c s hc hs =
      let most = (ranges p a).subbands-high in
      omega (
        arith,
        start_is c hc,
        ap (λ (n : ℕ). b * n) (block-width p (read_factors p frame) a (enough-factors p frame)),
        total_ext s (entry (width_row p factors_of c)) (width_at p (read_factors p frame) c)
            (λ i hi. width_is c i (omega (arith, (channels-range p).1)) (omega arith)),
      )

  -- what is read of a channel
  abbrev values_of : ℕ → List (List ℤ)
  values_of c = channel_values bytes_of (width_row p factors_of c) (get_or factors_of c []) (start p factors_of c) (block_bits p) p.blocks

  value_at_place : (b c s : ℕ) → b < p.blocks → s < 8
      → channel_value bytes_of (width_row p factors_of c) (get_or factors_of c []) (start p factors_of c) (block_bits p) p.blocks b s
      ≡ sample_at (values_of c) b s
  value_at_place b c s hb hs =
      values_at bytes_of (width_row p factors_of c) (get_or factors_of c []) (start p factors_of c) (block_bits p) p.blocks b s hb hs

  -- it is what is reconstructed
  sample_is : (b c s : ℕ) → b < p.blocks → c < channels p → s < p.subbands
      → sample_at (values_of c) b s ≡ reconstructed_at p (unpack p frame) b c s
  unfolding value_of reconstructed_at unpack
  sample_is b c s hb hc hs =
      let factors : List (List ℕ) = read_factors p frame in
      let two : c < 2 = omega (arith, (channels-range p).1) in
      let eight : s < 8 = omega (arith, (ranges p a).subbands-high) in
      let w : entry (width_row p factors_of c) s ≡ width_at p factors c s = width_is c s two eight in
      let f : entry (get_or factors_of c []) s ≡ factor_at (unpack p frame) c s = factor_is c s hc hs in
      let k : ℕ = start p factors_of c + total s (entry (width_row p factors_of c)) + b * block_bits p in
      let q : number_at bytes_of k (entry (width_row p factors_of c) s)
      ≡ value_at (unpack p frame) b c s =
      ap₂ (λ (n k : ℕ). number_at bytes_of n k) (place_is b c s hc hs) w
      ∙ number-inside (value_position p factors b c s) (width_at p factors c s)
      (value-inside p a factors (enough-factors p frame) b c s hb hc hs)
      ∙ sym (read-value p frame factors b c s hb hc hs) in
      sym (value_at_place b c s hb eight) ∙ rw (q, f, w)

  -- 0 where there is no such channel or no such subband: the width there is 0
  sample-none : (b c s : ℕ) → b < p.blocks → c < 2 → s < 8 → (c < channels p → p.subbands ≤ s) → sample_at (values_of c) b s ≡ pos 0
  sample-none b c s hb hc hs out =
      sym (value_at_place b c s hb hs)
      ∙ value_none bytes_of (width_row p factors_of c) (get_or factors_of c []) (start p factors_of c) (block_bits p) p.blocks b s
      (table-width p a factors_of enough-rows c s hc hs ∙ go (ltb c (channels p)) refl)
    where
      go : (t : Bool) → ltb c (channels p) ≡ t → width_at p factors_of c s ≡ 0
      go true e = let h = ltb-true c (channels p) e in width-none p a factors_of enough-rows c s h (out h)
      go false e = width-absent p a factors_of enough-rows c s (ltb-false c (channels p) e)

  -- ---- sum and difference
  -- the samples of a channel with them are those that are decoded
  abbrev restored : ℕ → ℕ → ℕ → ℤ
  restored b c s =
      if eqb (entry (flag_row p bytes_of) s) 1
      then sum_or_difference c (sample_at (values_of 0) b s) (sample_at (values_of 1) b s)
      else sample_at (values_of c) b s

  restored-there : (b c s : ℕ) → b < p.blocks → c < channels p → s < p.subbands → restored b c s ≡ decoded_at p (unpack p frame) b c s
  unfolding decoded_at
  restored-there b c s hb hc hs = go (join_at (unpack p frame) s) refl
    where
      go : (t : Bool) → join_at (unpack p frame) s ≡ t → restored b c s ≡ decoded_at p (unpack p frame) b c s
      go true e =
          let two = joins-two p s (flag-low s e) in
          rw (flag_is s, e, sample_is b 0 s hb (omega (arith, two)) hs, sample_is b 1 s hb (omega (arith, two)) hs) refl
      go false e = rw (flag_is s, e) (sample_is b c s hb hc hs)

  -- and 0 where there is no such channel or no such subband
  restored-none : (b c s : ℕ) → b < p.blocks → c < 2 → s < 8 → (c < channels p → p.subbands ≤ s) → restored b c s ≡ pos 0
  restored-none b c s hb hc hs out = rw (flag_is s, flag-clear c s hc out) (sample-none b c s hb hc hs out)

  restored_is : (b c s : ℕ) → b < p.blocks → c < 2 → s < 8 → restored b c s ≡ sample_at (channel_rows p (unpack p frame) c) b s
  restored_is b c s hb hc hs = go (ltb c (channels p)) (ltb s p.subbands) refl refl
    where
      go : (t u : Bool) → ltb c (channels p) ≡ t → ltb s p.subbands ≡ u
          → restored b c s ≡ sample_at (channel_rows p (unpack p frame) c) b s
      go true true e d =
          let h = ltb-true c (channels p) e in
          let k = ltb-true s p.subbands d in
          restored-there b c s hb h k ∙ sym (rows_there p (unpack p frame) b c s hb h k)
      go true false e d =
          let k = ltb-false s p.subbands d in
          restored-none b c s hb hc hs (λ _. k) ∙ sym (rows_behind p (unpack p frame) b c s hb (ltb-true c (channels p) e) k)
      go false u e d =
          let h = ltb-false c (channels p) e in
          restored-none b c s hb hc hs (λ l. absurd (omega arith)) ∙ sym (rows_absent p (unpack p frame) b c s h)

  -- ---- the arrays
  module _ {bytes : List ℕ} {factors : List (List ℕ)} (read : List Blocks) (bytes_are : bytes ≡ bytes_of)
      (factors_are : factors ≡ build 2 (factor_row p bytes))
      (read_is : (c : ℕ) → c < 2 → rows_of read c ≡ read_samples p bytes factors c) where
    factor_rows_are : factors ≡ factors_of
    factor_rows_are = factors_are ∙ ap (λ (bs : List ℕ). build 2 (factor_row p bs)) bytes_are

    read-array : (c : ℕ) → c < 2 → rows_of read c ≡ samples_array p.blocks (values_of c)
    unfolding read_samples
    read-array c h = read_is c h ∙ ap₂ (λ (bs : List ℕ) (fs : List (List ℕ)). read_samples p bs fs c) bytes_are factor_rows_are

    -- in rows of eight
    pub read_eight : (c : ℕ) → c < 2 → (b : ℕ) → b < p.blocks → length (get_or (rows_of read c) b []) ≡ 8
    unfolding samples_array
    read_eight c hc b hb =
        rw (read-array c hc, row_in _ _ p.blocks b hb (ranges p a).blocks-high) (length-build 8 (sample_at (values_of c) b))

    -- what is read is small
    pub read_small : ((c s : ℕ) → entry (get_or factors c []) s ≤ 15) → (c : ℕ) → c < 2 → Small p.blocks (2 ^ 27) (rows_of read c)
    unfolding samples_array channel_values value_of
    read_small within c hc b s hb =
        rw (read-array c hc, row_in _ _ p.blocks b hb (ranges p a).blocks-high)
        (build-all (λ z. nat_abs z ≤ 2 ^ 27) 8 (sample_at (values_of c) b) s (pos 0)
        (λ s. build-all (λ (row : List ℤ). nat_abs (get_or row s (pos 0)) ≤ 2 ^ 27) p.blocks _ b []
        (λ b. build-all (λ z. nat_abs z ≤ 2 ^ 27) 8 _ s (pos 0) (value_small c b) (omega arith)) (omega arith)) (omega arith))
      where
        value_small : (c b s : ℕ)
            → let place = start p factors_of c + total s (entry (width_row p factors_of c)) in
            let width = entry (width_row p factors_of c) s in
            nat_abs (value_of bytes_of place (block_bits p) width (entry (get_or factors_of c []) s) b) ≤ 2 ^ 27
        value_small c b s =
            reconstruct-bound _ (entry (get_or factors_of c []) s) (entry (width_row p factors_of c) s)
            (number-at-lt bytes_of _ (entry (width_row p factors_of c) s)) (rw (← factor_rows_are) (within c s))

    -- and with sum and difference it is the array of the channel
    pub frame_is : (c : ℕ) → c < 2
        → with_flagged p.blocks (flag_row p bytes) (restored_at read c) (rows_of read c) ≡ channel_array p (unpack p frame) c
    unfolding channel_array
    frame_is c hc =
        ap₂ (λ (flags : List ℕ) (xs : List (List ℤ)). with_flagged p.blocks flags (restored_at read c) xs) (ap (flag_row p) bytes_are)
        (read-array c hc)
        ∙ flagged_array p.blocks (flag_row p bytes_of) (restored_at read c) (values_of c) (channel_rows p (unpack p frame) c) most
        (λ b s hb hs. rw (here 0 b s (omega arith) hb hs, here 1 b s (omega arith) hb hs) (restored_is b c s hb hc hs))
      where
        most : p.blocks ≤ 16
        most = (ranges p a).blocks-high

        here : (c b s : ℕ) → c < 2 → b < p.blocks → s < 8 → sample_at (rows_of read c) b s ≡ sample_at (values_of c) b s
        here c b s h hb hs =
            ap (λ (xs : List (List ℤ)). sample_at xs b s) (read-array c h) ∙ array_holds p.blocks (values_of c) most b s hb hs
