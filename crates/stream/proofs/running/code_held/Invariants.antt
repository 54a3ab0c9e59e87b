-- The coder is reached by calls alone; what is held gets less, since a turn that goes on takes a byte at least.
use Rattle.std.proofs.Common.{[]}
use Rattle.stream.specs.Held.{holding}
use Rattle.stream.specs.Runs.{Reaches}
use Rattle.stream.proofs.running.code_held.Given as goal

abbrev pub invariant-loop-used : goal.invariant-loop-used
invariant-loop-used g l = Reaches g.C.Coder.codes l.initial.coder (holding l.initial.buffer) [] l.coder (holding l.buffer)

abbrev pub decreases-loop-used : goal.decreases-loop-used
decreases-loop-used g l = l.buffer.held
