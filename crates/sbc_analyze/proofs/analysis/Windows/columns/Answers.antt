-- `sbc_analyze::analysis::Windows::columns` meets its contract. The loop's invariant: the places before n hold the columns, and the others
-- 0.
-- Assumes nothing.
use Prim.Native.Nat.{ℕ, ◌+◌, ◌*◌, ◌<◌}
use native.Mathlib.Omega.{arith}
use mir.Syntax.{w32}
use Rattle.laws.proofs.Arrays.{fill_none, filled, stored}
use Rattle.sbc_filterbank.proofs.Bands.{bands-le}
use Rattle.sbc_analyze.proofs.Columns.{columns-within}
use Rattle.sbc_analyze.proofs.analysis.Windows.columns.Goals as goal

pub loop-n-init : goal.loop-n-init
loop-n-init g c = (omega arith, fill_none 4 _, fill_none 4 _)

pub loop-n-preserved : goal.loop-n-preserved
loop-n-preserved g c =
    let below : c.loop-n.n < 4 = omega (arith, bands-le g.met.B.Bank.bands) in (
      omega arith,
      stored w32 4 _ _ _ _ (record { sfits = c.column.type_inv }) below c.loop-n.invariant.1 c.column.ensures,
      stored w32 4 _ _ _ _ (record { sfits = c.column-in-loop-n.type_inv }) below c.loop-n.invariant.2 c.column-in-loop-n.ensures,
    )

pub invariant_of-result : goal.invariant_of-result
invariant_of-result g c =
    let Y = c.args.self.now in record {
      even_small =
          columns-within g.B.Bank.SUBBANDS (λ (n : ℕ). 2 * n) Y.values _ Y.small
          (filled 4 _ _ _ _ (omega arith) (omega arith) c.loop-n.invariant.1);
      odd_small =
          columns-within g.B.Bank.SUBBANDS (λ (n : ℕ). 2 * n + 1) Y.values _ Y.small
          (filled 4 _ _ _ _ (omega arith) (omega arith) c.loop-n.invariant.2);
    }
