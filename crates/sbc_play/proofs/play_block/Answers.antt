-- `sbc_play::play_block` meets its contract: a block of the definition.
-- Assumes nothing.
use Rattle.sbc_play.proofs.Played.{block-played}
use Rattle.sbc_play.proofs.play_block.Goals as goal

pub returns : goal.returns
returns g c =
    let played = c.synthesize_by-pcm.ensures in
    let block = block-played c.args.channel.count c.args.channel.index c.args.block c.args.history.now _ _ _ _ _ g.met.B.Bank.bands
    played.long played.values played.newest played.outputs c.put_block.ensures in
    record { history = block.0; output = block.1 }
