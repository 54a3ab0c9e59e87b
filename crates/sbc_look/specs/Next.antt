-- What a decode call does with what stands in front of its input, by the tests in document 01's order: 3 bytes, header,
-- length, output, checksum.
-- From document 01, "Given back".
use Rattle.std.specs.Prelude.{ℕ, Bool, ◌&&◌, not, List, eqb, ltb, length, if◌then◌else◌, Option, None, Some, Result, Ok, Err}
use Rattle.codec.specs.Errors.{error_number}
use Rattle.codec.specs.declared.Error.{Error}
use Rattle.sbc_parameters.specs.Sizes.{frame_samples}
use Rattle.sbc_parameters.specs.declared.SbcParameters.{SbcParameters}
use Rattle.sbc_parameters.specs.declared.accepted_set.AcceptedSet.{AcceptedSet}
use Rattle.sbc_look.specs.Look.{Look, cut, bad, whole, look}

pub data Decision : Type 0 where
  -- no whole frame, and no refusal
  no_frame : Decision
  -- a refusal, by its number
  refusal : ℕ → Decision
  -- a frame with these parameters is played
  plays : SbcParameters → Decision

-- input that ends before its frame: Incomplete with finishing on and some input, else no frame
unfoldable pub next_short : Bool → ℕ → Decision
next_short finishing size = if finishing && not (eqb size 0) then refusal 1 else no_frame

-- a whole frame: BufferTooSmall with an output under its samples, InvalidData where the checksum differs
unfoldable pub next_whole : SbcParameters → Bool → ℕ → Decision
next_whole p good room = if ltb room (frame_samples p) then refusal 5 else if good then plays p else refusal 4

-- by what stands in front of an input of so many bytes, with room for so many samples
unfoldable pub next_at : Look → Bool → ℕ → ℕ → Decision
next_at cut finishing size room = next_short finishing size
next_at (bad n) finishing size room = refusal n
next_at (whole p good) finishing size room = next_whole p good room

-- what is done next
unfoldable pub next : Bool → List ℕ → ℕ → Decision
next finishing input room = next_at (look input) finishing (length input) room

-- what the code decides, in these terms
abbrev pub told_next : Result (Option AcceptedSet) Error → Decision
told_next (Ok None) = no_frame
told_next (Ok (Some accepted)) = plays accepted.set
told_next (Err e) = refusal (error_number e)
