-- `sbc_parameters::maximum_frame_samples` meets its contract: the constant is what the definition computes to.
-- Assumes nothing.
use mathlib.Core.Path.{sym}
use Rattle.sbc_parameters.proofs.Accepted.{maximum-samples}
use Rattle.sbc_parameters.proofs.maximum_frame_samples.Goals as goal

pub returns : goal.returns
returns c = sym maximum-samples
