-- The bytes that came so far are the reader's, and the coder is reached by way of them.
use Rattle.std.proofs.Common.{ℕ, List}
use Rattle.std.specs.Io.KnownBytes.{Consumes}
use Rattle.stream.specs.Held.{holding}
use Rattle.stream.specs.Runs.{Reaches}
use Rattle.stream.proofs.running.code_coming.Given as goal

abbrev pub invariant-loop : goal.invariant-loop
invariant-loop g l =
    (came : List ℕ) × Consumes (g.R.Read.remaining l.initial.reader) (g.R.Read.remaining l.reader) came
    × Reaches g.C.Coder.codes l.initial.coder (holding l.initial.buffer) came l.coder (holding l.buffer)
