-- Why a program stops, as it shows it.
use Rattle.std.specs.Prelude.{ℕ, List, Option, Some, None}
use Rattle.std.specs.Fmt.{decimal}
use Rattle.codec.specs.Errors.{error_number}
use Rattle.stream.specs.declared.running.Stop.{Stop}
use Rattle.stream.specs.declared.running.Stop.TheVariants.{Refused, Failed}

-- the number of a refusal; what a failure shows is the system's
abbrev pub stop_text : Stop → Option (List ℕ)
stop_text (Refused error) = Some (decimal (error_number error))
stop_text (Failed error) = None
