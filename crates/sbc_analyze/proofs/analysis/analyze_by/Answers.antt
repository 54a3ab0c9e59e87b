-- `sbc_analyze::analysis::analyze_by` meets its contract: the steps together are a block of the definition.
-- Assumes nothing.
use Prim.Native.Nat.{◌*◌}
use mathlib.Core.Path.{◌∙◌, ap}
use mathlib.Core.List.{List}
use native.Mathlib.Omega.{arith}
use lib.IntN.{ℤ}
use Rattle.sbc_filterbank.specs.Subbands.{padded}
use Rattle.sbc_filterbank.specs.Analysis.{analysis_outputs}
use Rattle.sbc_analyze.proofs.History.{shifted-is}
use Rattle.sbc_analyze.proofs.Columns.{outputs-within, outputs-is}
use Rattle.sbc_analyze.proofs.analysis.analyze_by.Goals as goal

pub returns : goal.returns
returns g c =
    let S = g.B.Bank.SUBBANDS in
    let columns = c.columns-columns.ensures in
    let sums = c.sums-sums in
    let x = shifted-is S (9 * S) c.args.history.now _ _ c.args.input.now (omega arith) c.shift_history.ensures c.enter.ensures in
    let y = outputs-is _ _ _ _ _ _ _ g.met.B.Bank.bands c.of-windows.ensures columns.even columns.odd sums.ensures.even sums.ensures.odd
    c.outputs.ensures in
    record {
      history = x;
      outputs = y ∙ ap (λ (l : List ℤ). padded (analysis_outputs S l)) x;
      within = outputs-within _ sums.result.even sums.result.odd _ sums.result.even_small sums.result.odd_small c.outputs.ensures;
    }
