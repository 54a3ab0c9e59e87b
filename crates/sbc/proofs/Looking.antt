-- A turn of decode on input that begins with a written frame or a part of one: what is seen, and what the turn does.
-- Assumes nothing.
use Prim.Native.Nat.{ℕ, ◌≤◌, ◌<◌}
use mathlib.Core.Path.{◌≡◌, sym, ap, ◌∙◌}
use mathlib.Core.Bool.{true}
use mathlib.Core.List.{List, ◌++◌}
use native.Mathlib.Omega.{arith}
use lib.IntN.{ℤ}
use lib.ListN.{length, get_or, take, drop, take-append-drop}
use lib.Seq.{get_or-take, take_at}
use borrow.Author.Tests.{lt-ltb, le-ltb, eq-eqb}
use Rattle.laws.specs.Answers.{gives}
use Rattle.crc8.specs.Checksum.{checksum}
use Rattle.sbc_parameters.specs.declared.SbcParameters.{SbcParameters}
use Rattle.sbc_parameters.specs.Parameters.{accepted}
use Rattle.sbc_parameters.specs.Sizes.{side_bits, frame_length, frame_samples}
use Rattle.sbc_parameters.specs.Header.{header, parse}
use Rattle.sbc_parameters.proofs.Accepted.{frame-length-range}
use Rattle.sbc_parameters.proofs.Parsing.{length-header, parse-short, parse-header}
use Rattle.sbc_frame.specs.Fields.{Fields, WellFormed}
use Rattle.sbc_frame.specs.Layout.{pack, unpack}
use Rattle.sbc_frame.proofs.Written.{checksum-pack, parse-pack}
use Rattle.sbc_frame.proofs.Reading.{unpack-pack}
use Rattle.sbc_look.specs.Look.{cut, whole, look_parsed, look}
use Rattle.sbc_look.specs.Next.{next_short, next_whole, next_at, next}
use Rattle.sbc_decoder.specs.Decode.{refused, play, unchanged, turn_by, decode_next}
use Rattle.sbc_decoder.specs.declared.SbcDecoder.{SbcDecoder}

-- ---- what is seen
-- under three bytes no frame is whole
pub look-short : (input : List ℕ) → length input < 3 → look input ≡ cut
unfolding look look_parsed
look-short input h = rw (parse-short input h)

-- a frame begins with its header
pub header-pack : (p : SbcParameters) (f : Fields) → take 3 (pack p f) ≡ header p
unfolding pack
header-pack p f = take_at (header p) _ 3 (length-header p)

module _ (p : SbcParameters) (a : accepted p ≡ true) (input : List ℕ) where
  -- a header, and not all of its frame
  pub look-cut : take 3 input ≡ header p → length input < frame_length p → look input ≡ cut
  unfolding look look_parsed
  look-cut e h = rw (parse-header p a input e, lt-ltb (length input) (frame_length p) h)

  module _ (f : Fields) (e : take (frame_length p) input ≡ pack p f) where
    -- a whole frame, and its checksum is right
    pub look-whole : frame_length p ≤ length input → look input ≡ whole p true
    unfolding look look_parsed
    look-whole h =
        let split : pack p f ++ drop (frame_length p) input ≡ input =
        ap (λ l. l ++ drop (frame_length p) input) (sym e) ∙ take-append-drop (frame_length p) input in
        let parsed : parse input ≡ gives p = ap parse (sym split) ∙ parse-pack p f a (drop (frame_length p) input) in
        let byte : get_or (pack p f) 3 0 ≡ get_or input 3 0 =
        ap (λ l. get_or l 3 0) (sym e) ∙ get_or-take (frame_length p) input 3 0 (omega (arith, (frame-length-range p a).0)) in
        let right : checksum (take (frame_length p) input) (side_bits p) ≡ get_or input 3 0 =
        ap (λ l. checksum l (side_bits p)) e ∙ sym (checksum-pack p f) ∙ byte in
        rw (parsed, le-ltb (length input) (frame_length p) h, eq-eqb _ _ right)

    -- and its fields are those that were written
    pub fields-whole : WellFormed p f → unpack p (take (frame_length p) input) ≡ f
    fields-whole w = ap (unpack p) e ∙ unpack-pack p f a w

-- ---- what the turn does
module _ (d : SbcDecoder) (input : List ℕ) (output : List ℤ) where
  -- input that ends before its frame
  pub turn-cut : look input ≡ cut → decode_next d input output ≡ turn_by (next_short d.finishing (length input)) d input output
  unfolding decode_next next next_at
  turn-cut e = rw e

  -- no room for the frame's samples
  pub turn-full : (p : SbcParameters) → look input ≡ whole p true → length output < frame_samples p
      → decode_next d input output ≡ unchanged (refused 5) d output
  unfolding decode_next next next_at next_whole turn_by
  turn-full p e h = rw (e, lt-ltb (length output) (frame_samples p) h)

  -- a frame is taken
  pub turn-whole : (p : SbcParameters) (f : Fields) → look input ≡ whole p true → unpack p (take (frame_length p) input) ≡ f
      → frame_samples p ≤ length output → decode_next d input output ≡ play p d f output
  unfolding decode_next next next_at next_whole turn_by
  turn-whole p f e u h = rw (e, le-ltb (length output) (frame_samples p) h, u)
