-- `sbc_write::BodyWriter::put` meets its contract. The loop's invariant: what the writer has written is what it had before the first byte
-- was flushed, and the bytes behind are as they were. The measure is the number of bits held.
-- Assumes nothing.
use Prim.Native.Nat.{◌+◌, ◌*◌, ◌^◌, ◌≤◌, ◌<◌}
use mathlib.Core.Path.{◌≡◌}
use lib.ListN.{length, drop}
use denote.Ref.{at_last}
use Rattle.sbc_write.specs.Writing.{bits_behind}
use Rattle.sbc_write.proofs.BodyWriter.put.Given as goal

abbrev pub invariant-loop-held : goal.invariant-loop-held
invariant-loop-held l = record {
  few : l.held ≤ 23;
  low : l.bits < 2 ^ l.held;
  long : length l.self.bytes.now ≡ length l.initial.self.bytes.now;
  count : 8 * l.at + l.held ≡ 8 * l.initial.at + l.initial.held;
  same_bytes : l.self.bytes ≡ at_last l.initial.self.bytes l.self.bytes.now;
  written :
      bits_behind l.self.bytes.now l.at l.held l.bits
      ≡ bits_behind l.initial.self.bytes.now l.initial.at l.initial.held l.initial.bits;
  behind : drop l.at l.self.bytes.now ≡ drop l.at l.initial.self.bytes.now;
}

abbrev pub decreases-loop-held : goal.decreases-loop-held
decreases-loop-held l = l.held
