-- `sbc_parameters::maximum_frame_length` meets its contract: the constant is what the definition computes to.
-- Assumes nothing.
use mathlib.Core.Path.{sym}
use Rattle.sbc_parameters.proofs.Accepted.{maximum-length}
use Rattle.sbc_parameters.proofs.maximum_frame_length.Goals as goal

pub returns : goal.returns
returns c = sym maximum-length
