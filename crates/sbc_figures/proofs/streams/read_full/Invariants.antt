-- No more has come than the buffer holds.
use Rattle.std.proofs.Common.{length, ◌≤◌}
use Rattle.sbc_figures.proofs.streams.read_full.Given as goal

abbrev pub invariant-loop : goal.invariant-loop
invariant-loop g l = l.done ≤ length l.buffer
