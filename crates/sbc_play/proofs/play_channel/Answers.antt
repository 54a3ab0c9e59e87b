-- `sbc_play::play_channel` meets its contract: a set that does not have 4 subbands has 8.
-- Assumes nothing.
use borrow.Author.Rules.{rules}
use Rattle.sbc_play.proofs.Played.{eight-bands}
use Rattle.sbc_play.proofs.play_channel.Goals as goal

pub play_channel_by-requires-else-accepted-eq4 : goal.play_channel_by-requires-else-accepted-eq4
play_channel_by-requires-else-accepted-eq4 c = let e = eight-bands c.args.accepted c.if-accepted-eq4.false in search rules

pub returns-else-accepted-eq4-clause-history : goal.returns-else-accepted-eq4-clause-history
returns-else-accepted-eq4-clause-history c = let e = eight-bands c.args.accepted c.if-accepted-eq4.false in search rules

pub returns-else-accepted-eq4-clause-output : goal.returns-else-accepted-eq4-clause-output
returns-else-accepted-eq4-clause-output c = let e = eight-bands c.args.accepted c.if-accepted-eq4.false in search rules
