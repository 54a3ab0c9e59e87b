-- `encode_frames` meets its contract. The invariant: the histories are those after i frames, and the frames stand in front of what the output
-- held.
-- Assumes nothing.
use Prim.Native.Nat.{◌-◌, ◌≤◌}
use Rattle.sbc_encoder.proofs.Framing.{Framing}
use Rattle.sbc_encoder.proofs.encode_frames.Given as goal

abbrev pub invariant-loop-i : goal.invariant-loop-i
invariant-loop-i l = (l.i ≤ l.count) × Framing l.accepted.set l.initial.histories l.input l.initial.output l.histories l.output l.i

abbrev pub decreases-loop-i : goal.decreases-loop-i
decreases-loop-i l = l.count - l.i
