-- Looking at input: the three-byte, header and length tests, and a yes or no on the checksum; no state, no output.
-- From document 01, "Calls" and "Given back".
use Rattle.std.specs.Prelude.{ℕ, Bool, List, eqb, ltb, length, get_or, take, if◌then◌else◌, Result, Ok, Err}
use Rattle.laws.specs.Answers.{Told, gives, refuses}
use Rattle.crc8.specs.Checksum.{checksum}
use Rattle.codec.specs.Errors.{error_number}
use Rattle.codec.specs.declared.Error.{Error}
use Rattle.sbc_parameters.specs.Sizes.{side_bits, frame_length}
use Rattle.sbc_parameters.specs.Header.{parse}
use Rattle.sbc_parameters.specs.declared.SbcParameters.{SbcParameters}
use Rattle.sbc_look.specs.declared.WholeFrame.{WholeFrame}

-- what stands in front of the input
pub data Look : Type 0 where
  -- under 3 bytes, or under one frame
  cut : Look
  -- the header is refused
  bad : ℕ → Look
  -- a whole frame, and whether byte 3 holds its checksum
  whole : SbcParameters → Bool → Look

-- what parse says, and for a header that it accepts the tests of length and checksum
unfoldable pub look_parsed : List ℕ → Told SbcParameters → Look
look_parsed input (refuses n) = if eqb n 1 then cut else bad n
look_parsed input (gives p) =
    if ltb (length input) (frame_length p) then cut else
    whole p (eqb (checksum (take (frame_length p) input) (side_bits p)) (get_or input 3 0))

-- parse, then these tests
unfoldable pub look : List ℕ → Look
look input = look_parsed input (parse input)

-- what the code finds, in these terms: of what it gives, the parameters and the yes or no; Incomplete is cut
abbrev pub told_look : Result WholeFrame Error → Look
told_look (Ok frame) = whole frame.accepted.set frame.good
told_look (Err e) = if eqb (error_number e) 1 then cut else bad (error_number e)
