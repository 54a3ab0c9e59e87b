-- `SbcDecoder::decode` meets its contract, by what a turn gives back.
-- Assumes nothing.
use mathlib.Core.Path.{◌≡◌, ap, ◌∙◌}
use native.Mathlib.Omega.{arith}
use Rattle.std.specs.Prelude.{None, Some, Ok}
use Rattle.codec.specs.Answers.{progress_of}
use Rattle.sbc_decoder.proofs.Turning.{start, takes, takes-some, ends, fails}
use Rattle.sbc_decoder.proofs.SbcDecoder.decode.Goals as goal

pub turns-init : goal.turns-init
turns-init c = start _ _ _

pub overflow_add-done : goal.overflow_add-done
overflow_add-done c =
    let t = c.decode_next-turn in
    let one : t.result ≡ Ok (Some c.in-Ok-Some.progress) = c.in-Ok-Some.is ∙ ap Ok (rw c.in-Ok-Some.is at c.in-Ok-Some.field-0-is) in
    omega (arith, (takes c.turns.invariant t.result t.new.self t.new.output t.ensures c.in-Ok-Some.progress one).read)

pub overflow_add-done-in-Ok-Some : goal.overflow_add-done-in-Ok-Some
overflow_add-done-in-Ok-Some c =
    let t = c.decode_next-turn in
    let one : t.result ≡ Ok (Some c.in-Ok-Some.progress) = c.in-Ok-Some.is ∙ ap Ok (rw c.in-Ok-Some.is at c.in-Ok-Some.field-0-is) in
    let k = takes c.turns.invariant t.result t.new.self t.new.output t.ensures c.in-Ok-Some.progress one in
    omega (arith, k.written, k.same_length, c.well_formed)

pub turns-smaller : goal.turns-smaller
turns-smaller c =
    let t = c.decode_next-turn in
    let one : t.result ≡ Ok (Some c.in-Ok-Some.progress) = c.in-Ok-Some.is ∙ ap Ok (rw c.in-Ok-Some.is at c.in-Ok-Some.field-0-is) in
    let k = takes c.turns.invariant t.result t.new.self t.new.output t.ensures c.in-Ok-Some.progress one in
    let some = takes-some c.turns.invariant t.result t.new.self t.new.output t.ensures c.in-Ok-Some.progress one in
    omega (arith, k.read, some)

pub turns-preserved : goal.turns-preserved
turns-preserved c =
    let t = c.decode_next-turn in
    let one : t.result ≡ Ok (Some c.in-Ok-Some.progress) = c.in-Ok-Some.is ∙ ap Ok (rw c.in-Ok-Some.is at c.in-Ok-Some.field-0-is) in
    takes c.turns.invariant t.result t.new.self t.new.output t.ensures c.in-Ok-Some.progress one

pub returns-in-Ok-None : goal.returns-in-Ok-None
unfolding progress_of
returns-in-Ok-None c =
    let t = c.decode_next-turn in
    let none : t.result ≡ Ok None = c.in-Ok-None.is ∙ ap Ok (rw c.in-Ok-None.is at c.in-Ok-None.field-0-is) in
    ends c.turns.invariant t.result t.new.self t.new.output t.ensures none

pub returns-in-Err : goal.returns-in-Err
unfolding progress_of
returns-in-Err c =
    let t = c.decode_next-turn in
    rw c.refusal_or_progress.ensures (fails c.turns.invariant t.result t.new.self t.new.output t.ensures c.in-Err.error c.in-Err.is)
