-- `SbcDecoder::decode` meets its contract. The invariant: the whole call is the frames taken so far, and then the call from here.
-- The measure is what is left of the input.
-- Assumes nothing.
use Prim.Native.Nat.{◌-◌}
use lib.ListN.{length}
use Rattle.sbc_decoder.proofs.Turning.{Turning}
use Rattle.sbc_decoder.proofs.SbcDecoder.decode.Given as goal

abbrev pub invariant-turns : goal.invariant-turns
invariant-turns l = Turning l.initial.self l.input l.initial.output l.self l.output l.done.consumed l.done.produced

abbrev pub decreases-turns : goal.decreases-turns
decreases-turns l = length l.input - l.done.consumed
