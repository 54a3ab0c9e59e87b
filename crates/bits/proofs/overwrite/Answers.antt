-- `bits::overwrite` meets its contract. The loop's invariant says what is left: writing the bits that are left, from the
-- byte's first or from `position` on, gives what writing them all at the start gives; and all are still bytes. One turn
-- is `overwritten-step`, and with no bits left nothing changes (`overwritten-none`).
-- Assumes nothing.
use Prim.Native.Nat.{ℕ, ◌+◌, ◌-◌, ◌/◌}
use mathlib.Core.Path.{◌≡◌, sym, ap, ◌∙◌}
use native.Mathlib.Omega.{arith}
use lib.ListN.{set}
use Rattle.bits.specs.Fields.{overwritten}
use Rattle.bits.proofs.Bytewise.{set-small, overwritten-step, overwritten-none}
use Rattle.bits.proofs.overwrite.Invariants.{next}
use Rattle.bits.proofs.overwrite.Goals as goal

pub loop-i-preserved : goal.loop-i-preserved
loop-i-preserved c =
    let l = c.loop-i in
    let a = c.args in
    let end : ℕ = a.position + a.count in
    let at : ℕ = c.max-at.result in
    let n : ℕ = c.min-n.result in
    let x : ℕ = c.with_bits.result in
    let here : next a.position end l.i ≡ at = omega arith in
    let place : at / 8 ≡ l.i = omega arith in
    let there : next a.position end (l.i + 1) ≡ at + n = omega arith in
    let rest : end - next a.position end (l.i + 1) ≡ end - at - n = omega arith in
    let step : overwritten (set l.bytes (at / 8) x) (at + n) a.value (end - at - n) ≡ overwritten l.bytes at a.value (end - at) =
    overwritten-step l.bytes at a.value (end - at) n x (omega arith) (omega arith) (omega arith) (omega arith)
    (rw (← place) at c.with_bits.ensures) in
    (set-small l.bytes l.i x (omega (arith, c.with_bits.type_inv)) l.invariant.0, cc (step, here, place, there, rest, l.invariant.1))

pub returns : goal.returns
returns c =
    let l = c.loop-i in
    let a = c.args in
    let end : ℕ = a.position + a.count in
    let e : end - next a.position end l.i ≡ 0 = omega arith in
    sym (overwritten-none l.bytes (next a.position end l.i) a.value l.invariant.0)
    ∙ ap (overwritten l.bytes (next a.position end l.i) a.value) (sym e) ∙ l.invariant.1
