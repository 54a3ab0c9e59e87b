-- `sbc_analyze_frame::analyze_block` meets its contract: a block of the definition.
-- Assumes nothing.
use Rattle.sbc_analyze_frame.proofs.Analyzed.{entered}
use Rattle.sbc_analyze_frame.proofs.analyze_block.Goals as goal

pub returns-clause-history : goal.returns-clause-history
returns-clause-history g c =
    entered c.args.channel.count c.args.channel.index c.args.block c.args.history.now c.args.input.now _ _ g.met.B.Bank.bands
    c.pcm_block-pcm.ensures c.analyze_by.ensures.history
