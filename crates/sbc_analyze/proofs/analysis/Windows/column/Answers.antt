-- `sbc_analyze::analysis::Windows::column` meets its contract: the three branches are the column's cases.
-- Assumes nothing.
use Prim.Native.Nat.{◌+◌, ◌*◌, ◌-◌, ◌/◌}
use mathlib.Core.Path.{◌∙◌, sym}
use lib.Dec.{lit<}
use lib.IntN.{pos}
use lib.ListN.{get_or}
use mir.Syntax.{w32}
use Rattle.sbc_filterbank.proofs.Words.{read-entry, read-plus, read-minus}
use Rattle.sbc_analyze.proofs.Columns.{fold-first, fold-near, fold-far}
use Rattle.sbc_analyze.proofs.analysis.Windows.column.Goals as goal

pub returns-then-c-eq0 : goal.returns-then-c-eq0
returns-then-c-eq0 g c =
    let Y = c.args.self.now in
    rw (c.SUBBANDS-half.ensures)
    (read-entry w32 Y.values Y.small (lit< tt) (g.B.Bank.SUBBANDS / 2 + c.args.c)
    ∙ sym (fold-first g.B.Bank.SUBBANDS (λ k. get_or Y.values k (pos 0)) c.args.c c.if-c-eq0.true))

pub returns-then-c-half : goal.returns-then-c-half
returns-then-c-half g c =
    let Y = c.args.self.now in
    rw (c.SUBBANDS-half.ensures)
    (read-plus w32 Y.values Y.values Y.small Y.small (lit< tt) (g.B.Bank.SUBBANDS / 2 + c.args.c) (g.B.Bank.SUBBANDS / 2 - c.args.c)
    ∙ sym (fold-near g.B.Bank.SUBBANDS (λ k. get_or Y.values k (pos 0)) c.args.c c.if-c-eq0.false
    (rw (c.SUBBANDS-half.ensures) at c.if-c-half.true)))

pub returns : goal.returns
returns g c =
    let Y = c.args.self.now in
    rw (c.SUBBANDS-half.ensures)
    (read-minus w32 Y.values Y.values Y.small Y.small (lit< tt) (g.B.Bank.SUBBANDS / 2 + c.args.c) (5 * (g.B.Bank.SUBBANDS / 2) - c.args.c)
    ∙ sym (fold-far g.B.Bank.SUBBANDS (λ k. get_or Y.values k (pos 0)) c.args.c c.if-c-eq0.false
    (rw (c.SUBBANDS-half.ensures) at c.if-c-half.false)))
