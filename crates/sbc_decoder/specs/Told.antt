-- What the code of the calls and of their parts gives back and leaves, in the definitions' terms, with document 01's numbers
-- ("Given back").
use Rattle.std.specs.Prelude.{List, ℤ, Option, None, Some, Result, Ok, Err}
use Rattle.codec.specs.Errors.{error_number}
use Rattle.codec.specs.Answers.{told}
use Rattle.codec.specs.declared.Error.{Error}
use Rattle.codec.specs.declared.Progress.{Progress}
use Rattle.sbc_decoder.specs.Decode.{Step, none_whole, refused, taken, Turn, Decoded}
use Rattle.sbc_decoder.specs.declared.SbcDecoder.{SbcDecoder}

-- how a turn went
abbrev pub told_step : Result (Option Progress) Error → Step
told_step (Ok None) = none_whole
told_step (Ok (Some progress)) = taken progress
told_step (Err e) = refused (error_number e)

-- a turn, with the decoder and the output at exit
abbrev pub told_turn : Result (Option Progress) Error → SbcDecoder → List ℤ → Turn
told_turn r d output = record { step = told_step r; decoder = d; output = output }

-- a call, with the decoder and the output at exit
abbrev pub told_decoded : Result Progress Error → SbcDecoder → List ℤ → Decoded
told_decoded r d output = record { answer = told r; decoder = d; output = output }
