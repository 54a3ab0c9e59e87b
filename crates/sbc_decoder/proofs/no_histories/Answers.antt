-- `no_histories` meets its contract: both histories are as created.
-- Assumes nothing.
use mathlib.Core.Path.{ap}
use mathlib.Core.List.{List, [], ◌∷◌}
use Rattle.sbc_filterbank.specs.declared.synthesis.Synthesis.{Synthesis}
use Rattle.sbc_decoder.specs.Decode.{cleared}
use Rattle.sbc_decoder.proofs.Clearing.{silent}
use Rattle.sbc_decoder.proofs.no_histories.Goals as goal

pub returns : goal.returns
unfolding cleared
returns c = ap {B = List Synthesis} (λ x. x ∷ x ∷ []) (silent c.new.result c.new.ensures.values c.new.ensures.newest)
