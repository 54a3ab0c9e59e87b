-- `sbc_allocation::channel_needs` meets its contract. The invariant: the needs written are the first of the channel's needs, 32 higher.
-- Assumes nothing.
use mathlib.Core.Path.{◌≡◌, refl, sym, ap, ◌∙◌}
use mathlib.Core.List.{map}
use Prim.Native.Nat.{ℕ, ◌≤◌, ◌<◌, min}
use native.Mathlib.Omega.{arith}
use borrow.Author.Rules.{rules}
use borrow.Author.Count.{below_more}
use lib.ListN.{length, get_or, take, set, length-set}
use lib.Seq.{get_or-set_same, get_or-set_other}
use Rattle.laws.specs.Lists.{collect, build}
use Rattle.sbc_need.specs.Need.{need}
use Rattle.sbc_share.specs.Raised.{lowered}
use Rattle.sbc_allocation.specs.Allocate.{channel_needs}
use Rattle.sbc_allocation.proofs.Tables.{needs-step}
use Rattle.sbc_allocation.proofs.channel_needs.Goals as goal

pub loop-i-init : goal.loop-i-init
unfolding build collect
loop-i-init c = (refl, (λ j h. absurd (omega arith)), refl)

pub loop-i-preserved : goal.loop-i-preserved
loop-i-preserved c =
    let used = c.used_subbands-subbands in
    let l = c.loop-i in
    let n = c.raised_need.result in
    let P : ℕ → Type 0 = λ j. 16 ≤ get_or (set l.raised l.i n) j 0 in
    let in-needs : l.i < length l.raised = omega (arith, l.invariant.2, used.ensures) in
    let before : (j : ℕ) → j < l.i → P j = λ j h. omega (arith, get_or-set_other l.raised l.i j n 0 (omega arith), l.invariant.1 j h) in
    let here : P l.i = omega (arith, get_or-set_same l.raised l.i n 0 in-needs) in (
      needs-step c.args.parameters c.args.scale_factors l.raised l.i n in-needs (rw c.from-needs.ensures at c.raised_need.ensures.0) l.invariant.0,
      below_more P l.i before here,
      length-set l.raised l.i n ∙ l.invariant.2,
    )

pub returns : goal.returns
unfolding channel_needs
returns c =
    let long : length c.args.scale_factors ≡ 8 = search rules in
    let used = c.used_subbands-subbands in
    let l = c.loop-i in
    let p = c.args.parameters in
    let at : l.i ≡ min p.subbands 8 = omega (arith, used.ensures) in
    let all : min p.subbands 8 ≡ min p.subbands (length c.args.scale_factors) = omega (arith, long) in
    record {
      all =
          ap (λ (n : ℕ). map lowered (take n l.raised)) (sym at) ∙ l.invariant.0
          ∙ ap (λ (n : ℕ). build n (λ j. need p (get_or c.args.scale_factors j 0) j)) (at ∙ all);
      least = λ j h. l.invariant.1 j (omega arith);
    }
