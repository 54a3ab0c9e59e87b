-- What an encode or decode call gives back, by document 01's numbers ("Given back").
use Rattle.std.specs.Prelude.{ℕ, ◌+◌, ◌/◌, min, Bool, ◌&&◌, eqb, if◌then◌else◌, Result, Ok, Err}
use Rattle.laws.specs.Answers.{Told, gives, refuses}
use Rattle.codec.specs.Errors.{error_number}
use Rattle.codec.specs.declared.Error.{Error}
use Rattle.codec.specs.declared.Progress.{Progress}

-- what a call gives, or the number of its refusal
abbrev pub told : {A : Type 0} → Result A Error → Told A
told (Ok a) = gives a
told (Err e) = refuses (error_number e)

-- what a call consumed and what it produced
unfoldable pub progress_of : ℕ → ℕ → Progress
progress_of consumed produced = record { consumed = consumed; produced = produced }

-- a call that did nothing
unfoldable pub is_stalled : Progress → Bool
is_stalled progress = eqb progress.consumed 0 && eqb progress.produced 0

-- if a frame was accepted earlier in the call, the progress is returned instead of a refusal
unfoldable pub refused_after : Progress → ℕ → Told Progress
refused_after progress n = if eqb progress.consumed 0 then refuses n else gives progress

-- the progress of one part of a call and of the rest, together
unfoldable pub add_progress : Progress → Progress → Progress
add_progress a b = record { consumed = a.consumed + b.consumed; produced = a.produced + b.produced }

-- a call's n: the lesser of the two numbers of whole frames that fit into its input and into its output
unfoldable pub whole_frames : ℕ → ℕ → ℕ → ℕ → ℕ
whole_frames input frame-in output frame-out = min (input / frame-in) (output / frame-out)
