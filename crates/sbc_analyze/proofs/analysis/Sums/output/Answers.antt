-- `sbc_analyze::analysis::Sums::output` meets its contract: the two branches are the output's cases.
-- Assumes nothing.
use Prim.Native.Nat.{◌-◌, ◌^◌}
use mathlib.Core.Path.{◌∙◌, sym, ap}
use lib.Dec.{lit<}
use lib.IntN.{ℤ, pos}
use lib.ListN.{get_or}
use mir.Syntax.{w32, w64}
use Rattle.laws.specs.Integers.{floor_div}
use Rattle.laws.proofs.Abs.{read_back}
use Rattle.sbc_filterbank.proofs.Words.{read-plus, read-minus}
use Rattle.sbc_analyze.proofs.Columns.{output-first, output-second}
use Rattle.sbc_analyze.proofs.analysis.Sums.output.Goals as goal

pub returns-then-i-SUBBANDS : goal.returns-then-i-SUBBANDS
returns-then-i-SUBBANDS g c =
    let sums = c.args.self.now in
    let sum = read-plus w64 sums.even sums.odd sums.even_small sums.odd_small (lit< tt) _ c.args.i in
    read_back w32 c.shift_down.type_inv ∙ c.shift_down.ensures ∙ ap (λ (z : ℤ). floor_div z (2 ^ 33)) sum
    ∙ sym (output-first g.B.Bank.SUBBANDS (λ k. get_or sums.even k (pos 0)) (λ k. get_or sums.odd k (pos 0))
    c.args.i (rw (c.SUBBANDS.ensures) at c.if-i-SUBBANDS.true))

pub returns : goal.returns
returns g c =
    let sums = c.args.self.now in
    let difference = read-minus w64 sums.even sums.odd sums.even_small sums.odd_small (lit< tt) _ (g.B.Bank.SUBBANDS - 1 - c.args.i) in
    read_back w32 c.shift_down-2.type_inv ∙ (rw (c.SUBBANDS-2.ensures) at c.shift_down-2.ensures)
    ∙ ap (λ (z : ℤ). floor_div z (2 ^ 33)) difference
    ∙ sym (output-second g.B.Bank.SUBBANDS (λ k. get_or sums.even k (pos 0)) (λ k. get_or sums.odd k (pos 0))
    c.args.i (rw (c.SUBBANDS.ensures) at c.if-i-SUBBANDS.false))
