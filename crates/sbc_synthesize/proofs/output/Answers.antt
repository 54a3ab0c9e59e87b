-- `sbc_synthesize::output` meets its contract. The loop's invariant: the places before j hold the definition's outputs, and the
-- others 0.
-- Assumes nothing.
use mathlib.Core.Path.{◌≡◌, ◌∙◌, ap}
use native.Mathlib.Omega.{arith}
use lib.Dec.{lit<}
use lib.IntN.{pos}
use lib.ListN.{get_or}
use mir.Syntax.{w16, w64}
use mir.Val.{to_z, of_z}
use Rattle.laws.proofs.Arrays.{fill_none, stored}
use Rattle.sbc_filterbank.specs.Synthesis.{rounded}
use Rattle.sbc_filterbank.proofs.Bands.{bands-le}
use Rattle.sbc_filterbank.proofs.Words.{read-entry}
use Rattle.sbc_synthesize.proofs.output.Goals as goal

pub loop-j-init : goal.loop-j-init
loop-j-init g c = (omega arith, fill_none 8 _)

pub loop-j-preserved : goal.loop-j-preserved
loop-j-preserved g c =
    let sum : to_z w64 (of_z w64 (get_or c.args.sums.now c.loop-j.j (pos 0))) ≡ get_or c.args.sums.now c.loop-j.j (pos 0) =
    read-entry w64 c.args.sums.now c.requires (lit< tt) c.loop-j.j in (
      omega arith,
      stored w16 8 _ _ _ _ (record { sfits = c.round.type_inv }) (omega (arith, bands-le g.met.B.Bank.bands)) c.loop-j.invariant.1
          (c.round.ensures ∙ ap (rounded g.B.Bank.SUBBANDS) sum),
    )
