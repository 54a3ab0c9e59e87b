-- What the code of the calls and of their parts gives back and leaves, in the definitions' terms, with document 01's numbers ("Given back").
use Rattle.std.specs.Prelude.{List, ℕ, Result}
use Rattle.codec.specs.Answers.{told}
use Rattle.codec.specs.declared.Error.{Error}
use Rattle.codec.specs.declared.Progress.{Progress}
use Rattle.sbc_parameters.specs.declared.SbcParameters.{SbcParameters}
use Rattle.sbc_filterbank.specs.declared.analysis.Analysis.{Analysis}
use Rattle.sbc_encoder.specs.Encode.{Encoded}
use Rattle.sbc_encoder.specs.declared.SbcEncoder.{SbcEncoder}

-- a call, with the encoder and the output at exit
abbrev pub told_encoded : Result Progress Error → SbcEncoder → List ℕ → Encoded
told_encoded r e output = record { answer = told r; encoder = e; output = output }

-- an encoder with these histories
abbrev pub encoder_with : SbcParameters → List Analysis → SbcEncoder
encoder_with p analysis = record { parameters = p; analysis = analysis }
