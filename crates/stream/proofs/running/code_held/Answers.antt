-- A call saw what was held, and as many as it took go from the front.
-- Assumes nothing.
use Rattle.stream.specs.Runs.{starts}
use Rattle.stream.proofs.Runs.{takes-so}
use Rattle.stream.proofs.running.code_held.Goals as goal

pub loop-used-init : goal.loop-used-init
loop-used-init g c = starts

pub loop-used-preserved : goal.loop-used-preserved
loop-used-preserved g c = takes-so c.loop-used.invariant c.held.ensures c.in_ok-used.ensures.coded c.keep.ensures.left
