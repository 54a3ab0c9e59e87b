-- `sbc_synthesize::synthesize_by` meets its contract: the steps together are a block of the definition.
-- Assumes nothing.
use native.Mathlib.Omega.{arith}
use Rattle.sbc_filterbank.proofs.Ring.{slot-end}
use Rattle.sbc_synthesize.proofs.Blocks.{vector-pushed, outputs-of}
use Rattle.sbc_synthesize.proofs.Samples.{output-sums-within}
use Rattle.sbc_modulate.proofs.Rows.{rows-within}
use Rattle.sbc_synthesize.proofs.synthesize_by.Goals as goal

pub push-requires : goal.push-requires
push-requires g c =
    let pairs = c.pair_all-pairs.result in
    rw (c.SUBBANDS.ensures) (
      slot-end c.advance-slot.result g.met.B.Bank.bands (omega (arith, c.advance-slot.ensures)),
      rows-within _ _ _ g.met.B.Bank.bands pairs.sums_small pairs.differences_small c.row_all-rows.ensures,
    )

pub output-requires : goal.output-requires
output-requires g c = output-sums-within _ _ g.met.B.Bank.bands c.sums-sums.ensures

pub returns : goal.returns
returns g c =
    let pairs = c.pair_all-pairs.ensures in record {
      values =
          vector-pushed c.args.input.now _ _ _ _ _ _ _ g.met.B.Bank.bands pairs.sums pairs.differences c.row_all-rows.ensures
          c.advance-slot.ensures (rw (c.SUBBANDS.ensures) at c.push.ensures);
      long = c.push.array_long;
      newest = c.advance-slot.ensures;
      outputs = outputs-of _ _ _ g.met.B.Bank.bands c.sums-sums.ensures c.output.ensures;
    }
