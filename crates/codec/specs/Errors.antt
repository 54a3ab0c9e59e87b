-- The numbers of the refusals, from document 01, "Given back", and their names in words, which are how a refusal is shown.
use Rattle.std.specs.Prelude.{ℕ, List, codes}
use Rattle.codec.specs.declared.Error.{Error}
use Rattle.codec.specs.declared.Error.TheVariants.{Incomplete, InvalidHeader, InvalidParameter, InvalidData, BufferTooSmall}

abbrev pub error_number : Error → ℕ
error_number Incomplete = 1
error_number InvalidHeader = 2
error_number InvalidParameter = 3
error_number InvalidData = 4
error_number BufferTooSmall = 5

abbrev pub error_text : Error → List ℕ
error_text Incomplete = codes "incomplete"
error_text InvalidHeader = codes "invalid header"
error_text InvalidParameter = codes "invalid parameter"
error_text InvalidData = codes "invalid data"
error_text BufferTooSmall = codes "buffer too small"
