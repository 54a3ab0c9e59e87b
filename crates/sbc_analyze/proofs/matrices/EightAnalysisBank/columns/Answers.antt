-- The matrix is what its rule makes of the 32 cosines, which antt computes here.
-- Assumes nothing.
use mathlib.Core.Path.{refl}
use Rattle.laws.specs.Lists.{collect, build}
use Rattle.sbc_tables.specs.Tables.{cosines}
use Rattle.sbc_filterbank.specs.Subbands.{cosine_at}
use Rattle.sbc_filterbank.specs.Analysis.{analysis_cosine}
use Rattle.sbc_analyze.specs.Fold.{analysis_columns}
use Rattle.sbc_analyze.proofs.matrices.EightAnalysisBank.columns.Goals as goal

pub returns : goal.returns
unfolding analysis_columns collect build analysis_cosine cosine_at cosines
returns c = refl
