-- `sbc_quantizer::reciprocal` meets its contract: the table holds the reciprocal of each number of bits.
-- Assumes nothing.
use mathlib.Core.Path.{refl}
use native.Mathlib.Omega.{arith}
use Rattle.laws.specs.Lists.{collect, build}
use Rattle.sbc_quantizer.proofs.Reciprocals.{table_at}
use Rattle.sbc_quantizer.proofs.reciprocal.Goals as goal

pub returns : goal.returns
unfolding build collect
returns c = rw (c.from.ensures) (table_at _ c.args.bits refl (omega arith) (omega arith))
