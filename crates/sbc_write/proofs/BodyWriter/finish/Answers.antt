-- `sbc_write::BodyWriter::finish` meets its contract: with no bits held all bytes are written, else the last byte has the bits held
-- and zeros.
-- Assumes nothing.
use Prim.Native.Nat.{ℕ, ◌+◌, ◌-◌, ◌*◌}
use mathlib.Core.Path.{◌≡◌, ap, subst, ◌∙◌}
use mathlib.Core.List.{List}
use native.Mathlib.Omega.{arith}
use lib.ListN.{length}
use denote.Ref.{at_last}
use Rattle.laws.specs.Bits.{bits_of}
use Rattle.sbc_frame.specs.Layout.{filled}
use Rattle.sbc_write.specs.Writing.{bits_behind, count_in, Wrote}
use Rattle.sbc_write.proofs.Flushing.{finished-whole, finished-zeros}
use Rattle.sbc_write.proofs.Fields.{wrote_none, counted-field}
use Rattle.sbc_write.proofs.BodyWriter.finish.Goals as goal

-- the zeros part by part, each of which speaks of the numbers alone and not of the facts that a writer holds
pub returns-then-self-gt0 : goal.returns-then-self-gt0
returns-then-self-gt0 c =
    let w = c.args.self.now in
    let r = c.put.new.self in
    let put = c.put.ensures in
    let count = counted-field _ _ _ _ put in
    let none : r.writer.held ≡ 0 = omega (arith, count, r.writer.held_within, w.writer.held_within) in
    let full : r.writer.at ≡ length r.bytes.now =
    omega (arith, count, put.same_length, none, c.requires.room, c.requires.last, w.writer.held_within) in
    let last : w.writer.at + 1 ≡ length w.bytes.now = omega (arith, c.requires.room, c.requires.last, w.writer.held_within) in
    let spare : 8 - w.writer.held ≡ 8 * length w.bytes.now - count_in w = omega (arith, last, w.writer.held_within) in
    let wrote = subst (λ (n : ℕ). Wrote w r (bits_of n 0)) spare put in
    record {
      whole =
          put.same_bytes
          ∙ ap (λ (l : List ℕ). at_last w.bytes l)
          (finished-zeros w r r.bytes_within put last (omega (arith, w.writer.held_within)) none full);
      zeros =
          record {
            same_bytes = wrote.same_bytes;
            same_length = wrote.same_length;
            written = wrote.written;
            counted = wrote.counted;
            behind = wrote.behind;
          };
    }

pub returns-else-self-gt0 : goal.returns-else-self-gt0
unfolding bits_of
returns-else-self-gt0 c =
    let w = c.args.self.now in
    let none : 0 ≡ w.writer.held = omega arith in
    let spare : 0 ≡ 8 * length w.bytes.now - count_in w = omega (arith, c.requires.room, c.requires.last) in
    record {
      whole =
          ap (λ (l : List ℕ). at_last w.bytes l)
          (subst (λ (h : ℕ). w.bytes.now ≡ filled (length w.bytes.now) (bits_behind w.bytes.now w.writer.at h w.writer.bits)) none
          (finished-whole w.bytes.now w.bytes_within w.writer.at w.writer.bits (omega (arith, c.requires.room, c.requires.last))));
      zeros = subst (λ (n : ℕ). Wrote w w (bits_of n 0)) spare (wrote_none w);
    }
