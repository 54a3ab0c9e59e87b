-- The parts of a body, as the code writes them one behind the other: each has room, and together they are the bits of the body, which fill
-- it but for fewer than eight bits.
-- Assumes nothing.
use Prim.Native.Nat.{ℕ, ◌+◌, ◌-◌, ◌*◌, ◌≤◌, ◌<◌}
use mathlib.Core.Path.{◌≡◌, ap₂, subst}
use mathlib.Core.Bool.{Bool}
use mathlib.Core.List.{List, [], ◌∷◌}
use native.Mathlib.Omega.{arith}
use lib.ListN.{length, get_or, take}
use lib.Seq.{length-take-le}
use Rattle.sbc_parameters.specs.declared.accepted_set.AcceptedSet.{AcceptedSet}
use Rattle.sbc_parameters.specs.declared.SbcParameters.{SbcParameters}
use Rattle.sbc_parameters.specs.Parameters.{channels}
use Rattle.sbc_parameters.specs.Sizes.{join_count, frame_length}
use Rattle.sbc_allocation.specs.Allocate.{allocation_table}
use Rattle.sbc_frame.specs.declared.CodedFrame.{CodedFrame}
use Rattle.sbc_frame.proofs.Positions.{body_width, body-room}
use Rattle.sbc_frame.proofs.Sizes.{row-sizes}
use Rattle.sbc_write.specs.declared.BodyWriter.{BodyWriter}
use Rattle.sbc_write.specs.Writing.{Room, Wrote, count_in, row_bits, value_bits_of, values_width}
use Rattle.sbc_write.proofs.Fields.{wrote_more, counted-row, counted-blocks, row-front, value-bits_pair}
use Rattle.sbc_write_frame.specs.Framing.{coding_bits}

-- the front of a row, of as many numbers as the code counts, is so many numbers of the row
module _ (row : List ℕ) (width k n : ℕ) (e : k ≡ n) (h : n ≤ length row) where
  pub front-room : (w : BodyWriter) → Room w (n * width) → Room w (length (take k row) * width)
  front-room w room = rw (e, length-take-le n row h) room

  pub front-wrote : (a b : BodyWriter) → Wrote a b (row_bits (take k row) width (length (take k row))) → Wrote a b (row_bits row width n)
  front-wrote a b w = subst (λ (l : List Bool). Wrote a b l) (row-front row width n h) (rw e at w)

-- how many scale factors the second channel has, as the code counts subbands and channels
pub others_is : (p : SbcParameters) (s n : ℕ) → s ≡ p.subbands → n ≡ channels p → s * (n - 1) ≡ p.subbands * (channels p - 1)
others_is p s n e f = ap₂ {C = ℕ} (λ x y. x * (y - 1)) e f

module _ (accepted : AcceptedSet) (coding : CodedFrame) (eight : length coding.flags ≡ 8) (size : ℕ)
    (whole : size + 4 ≡ frame_length accepted.set)
    (none : BodyWriter) (start : count_in none ≡ 0) (long : length none.bytes.now ≡ size) where
  abbrev p : SbcParameters
  p = accepted.set

  abbrev row : ℕ → List ℕ
  row c = get_or coding.factors.rows c []

  -- an array of two, as the code makes it
  abbrev both : List (List ℕ) → List (List ℕ)
  both rows = get_or rows 0 [] ∷ get_or rows 1 [] ∷ []

  abbrev table : List (List ℕ)
  table = allocation_table p coding.factors.rows

  fits : (body_width p table ≤ 8 * size) × (8 * size < body_width p table + 8)
  fits = body-room p accepted.is_accepted coding.factors.rows coding.factors.long size whole

  joins-in : join_count p ≤ length coding.flags
  joins-in = omega (arith, eight, (row-sizes p accepted.is_accepted).joins-high)

  left-in : p.subbands ≤ length (row 0)
  left-in = omega (arith, coding.factors.long 0 (omega arith), (row-sizes p accepted.is_accepted).subbands-high)

  right-in : p.subbands * (channels p - 1) ≤ length (row 1)
  right-in = omega (arith, coding.factors.long 1 (omega arith), (row-sizes p accepted.is_accepted).others-high)

  module _ (joins : ℕ) (j : joins ≡ join_count p) where
    pub flags-room : Room none (length (take joins coding.flags) * 1)
    flags-room = front-room coding.flags 1 joins (join_count p) j joins-in none (omega (arith, fits.0))

    module _ (flagged : BodyWriter) (f : Wrote none flagged (row_bits (take joins coding.flags) 1 (length (take joins coding.flags))))
        (subbands : ℕ) (s : subbands ≡ p.subbands) where
      flags-wrote : Wrote none flagged (row_bits coding.flags 1 (join_count p))
      flags-wrote = front-wrote coding.flags 1 joins (join_count p) j joins-in none flagged f

      pub left-room : Room flagged (length (take subbands (row 0)) * 4)
      left-room =
          front-room (row 0) 4 subbands p.subbands s left-in flagged
          (omega (arith, counted-row _ _ _ _ _ flags-wrote, flags-wrote.same_length, fits.0))

      module _ (half : BodyWriter) (l : Wrote flagged half (row_bits (take subbands (row 0)) 4 (length (take subbands (row 0)))))
          (others : ℕ) (o : others ≡ p.subbands * (channels p - 1)) where
        left-wrote : Wrote flagged half (row_bits (row 0) 4 p.subbands)
        left-wrote = front-wrote (row 0) 4 subbands p.subbands s left-in flagged half l

        pub right-room : Room half (length (take others (row 1)) * 4)
        right-room =
            front-room (row 1) 4 others (p.subbands * (channels p - 1)) o right-in half
            (omega (
              arith,
              counted-row _ _ _ _ _ flags-wrote,
              flags-wrote.same_length,
              counted-row _ _ _ _ _ left-wrote,
              left-wrote.same_length,
              fits.0,
            ))

        module _ (side : BodyWriter) (r : Wrote half side (row_bits (take others (row 1)) 4 (length (take others (row 1)))))
            (widths : List (List ℕ)) (w : widths ≡ table) (blocks : ℕ) (b : blocks ≡ p.blocks) where
          right-wrote : Wrote half side (row_bits (row 1) 4 (p.subbands * (channels p - 1)))
          right-wrote = front-wrote (row 1) 4 others (p.subbands * (channels p - 1)) o right-in half side r

          before : count_in side ≡ join_count p * 1 + p.subbands * 4 + p.subbands * (channels p - 1) * 4
          before =
              omega (
                arith,
                counted-row _ _ _ _ _ flags-wrote,
                counted-row _ _ _ _ _ left-wrote,
                counted-row _ _ _ _ _ right-wrote,
              )

          pub values-room : Room side (blocks * values_width widths)
          values-room = rw (b, w) (omega (arith, before, flags-wrote.same_length, left-wrote.same_length, right-wrote.same_length, fits.0))

          module _ (end : BodyWriter)
              (v : Wrote side end (value_bits_of coding.samples (both widths) (both coding.factors.rows) blocks)) where
            values-wrote : Wrote side end (value_bits_of coding.samples table coding.factors.rows p.blocks)
            values-wrote = rw (b, w) at (subst (Wrote side end) (value-bits_pair coding.samples widths coding.factors.rows blocks) v)

            pub all-wrote : Wrote none end (coding_bits p coding.flags coding.factors.rows coding.samples)
            unfolding coding_bits
            all-wrote =
                wrote_more none flagged end _ _ flags-wrote
                (wrote_more flagged half end _ _ left-wrote (wrote_more half side end _ _ right-wrote values-wrote))

            pub filled-but : (count_in end + 0 ≤ 8 * length end.bytes.now) × (8 * length end.bytes.now < count_in end + 8)
            filled-but =
                let values = counted-blocks _ _ _ _ _ _ values-wrote in
                (omega (arith, values, before, all-wrote.same_length, fits.0), omega (arith, values, before, all-wrote.same_length, fits.1))
