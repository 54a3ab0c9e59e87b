-- The matrix is what its rule makes of the 32 cosines, which antt computes here.
-- Assumes nothing.
use mathlib.Core.Path.{refl}
use Rattle.laws.specs.Lists.{collect, build}
use Rattle.sbc_tables.specs.Tables.{cosines}
use Rattle.sbc_filterbank.specs.Subbands.{cosine_at}
use Rattle.sbc_filterbank.specs.Synthesis.{synthesis_cosine}
use Rattle.sbc_modulate.specs.Fold.{synthesis_rows}
use Rattle.sbc_modulate.proofs.matrices.FourSynthesisBank.rows.Goals as goal

pub returns : goal.returns
unfolding synthesis_rows collect build synthesis_cosine cosine_at cosines
returns c = refl
