-- The frame that is written: its length and its checksum, of any parameters and fields; its header and its bytes, of an accepted set.
-- Assumes nothing.
use Prim.Native.Nat.{ℕ, ◌-◌, ◌*◌}
use mathlib.Core.Path.{◌≡◌, refl, ap, ◌∙◌}
use mathlib.Core.Bool.{Bool, true, false}
use mathlib.Core.List.{List, [], ◌∷◌, ◌++◌, append_assoc}
use native.Mathlib.Omega.{arith}
use lib.ListN.{length, get_or, take, drop, replicate, length-append}
use lib.Seq.{take_at, get_or_at}
use Rattle.laws.specs.Answers.{gives}
use Rattle.laws.proofs.Bits.{length-bytes_of}
use Rattle.crc8.specs.Checksum.{covered, checksum}
use Rattle.sbc_parameters.specs.declared.SbcParameters.{SbcParameters}
use Rattle.sbc_parameters.specs.Parameters.{accepted}
use Rattle.sbc_parameters.specs.Sizes.{side_bits, frame_length}
use Rattle.sbc_parameters.specs.Header.{header, parse}
use Rattle.sbc_parameters.proofs.Parsing.{length-header, parse-header}
use Rattle.sbc_frame.specs.Fields.{Fields}
use Rattle.sbc_frame.specs.Layout.{body_bits, filled, body, pack}

-- ---- three bytes, one byte, and the rest
four : (h : List ℕ) (x : ℕ) (rest : List ℕ) → length h ≡ 3 → drop 4 (h ++ (x ∷ rest)) ≡ rest
four (a ∷ b ∷ c ∷ []) x rest e = refl
four [] x rest e = absurd (omega arith)
four (a ∷ []) x rest e = absurd (omega arith)
four (a ∷ b ∷ []) x rest e = absurd (omega arith)
four (a ∷ b ∷ c ∷ d ∷ h) x rest e = absurd (omega arith)

-- the checksum does not look at the one byte
pub blind : (h : List ℕ) (x y : ℕ) (rest : List ℕ) (n : ℕ) → length h ≡ 3
    → checksum (h ++ (x ∷ rest)) n ≡ checksum (h ++ (y ∷ rest)) n
unfolding checksum covered
blind (a ∷ b ∷ c ∷ []) x y rest n e = refl
blind [] x y rest n e = absurd (omega arith)
blind (a ∷ []) x y rest n e = absurd (omega arith)
blind (a ∷ b ∷ []) x y rest n e = absurd (omega arith)
blind (a ∷ b ∷ c ∷ d ∷ h) x y rest n e = absurd (omega arith)

module _ (p : SbcParameters) (f : Fields) where
  -- byte 3
  abbrev check : ℕ
  check = checksum (header p ++ (0 ∷ body p f)) (side_bits p)

  -- the bits that fill the last byte
  abbrev pub spare_bits : List Bool
  spare_bits = replicate (8 * (frame_length p - 4) - length (body_bits p f)) false

  -- ---- lengths
  length-body : length (body p f) ≡ frame_length p - 4
  unfolding body filled
  length-body = length-bytes_of (frame_length p - 4) (body_bits p f ++ spare_bits)

  -- a frame has its length
  pub length-pack : length (pack p f) ≡ frame_length p
  unfolding pack frame_length
  length-pack = length-append (header p) (check ∷ body p f) ∙ omega (arith, length-header p, length-body)

  -- a frame is cut out of a stream that begins with it
  pub cut-pack : (rest : List ℕ) → take (frame_length p) (pack p f ++ rest) ≡ pack p f
  cut-pack rest = take_at (pack p f) rest (frame_length p) length-pack

  -- the body begins at byte 4
  pub body-pack : drop 4 (pack p f) ≡ body p f
  unfolding pack
  body-pack = four (header p) check (body p f) (length-header p)

  -- ---- the checksum
  -- byte 3 is the checksum of the frame that it stands in
  pub checksum-pack : get_or (pack p f) 3 0 ≡ checksum (pack p f) (side_bits p)
  unfolding pack
  checksum-pack =
      get_or_at (header p) check (body p f) 0 3 (length-header p) ∙ blind (header p) 0 check (body p f) (side_bits p) (length-header p)

  -- ---- an accepted set
  module _ (a : accepted p ≡ true) where
    -- the parameters are read back from the frame, whatever comes behind it
    pub parse-pack : (rest : List ℕ) → parse (pack p f ++ rest) ≡ gives p
    unfolding pack
    parse-pack rest =
        let more : List ℕ = check ∷ body p f in
        parse-header p a ((header p ++ more) ++ rest)
        (ap (take 3) (append_assoc (header p) more rest) ∙ take_at (header p) (more ++ rest) 3 (length-header p))
