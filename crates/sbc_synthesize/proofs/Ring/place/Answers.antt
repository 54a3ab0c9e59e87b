-- `sbc_synthesize::Ring::place` meets its contract: up to the tenth slot the place is the ring's, and past it 20 S too far.
-- Assumes nothing.
use Rattle.sbc_synthesize.proofs.Blocks.{place-first, place-back}
use Rattle.sbc_synthesize.proofs.Ring.place.Goals as goal

pub returns-then-self-b-lt10 : goal.returns-then-self-b-lt10
returns-then-self-b-lt10 g c =
    rw (c.SUBBANDS-subbands.ensures)
    (λ j h. place-first c.args.self.now.newest j c.args.b g.met.B.Bank.bands h c.if-self-b-lt10.true)

pub returns : goal.returns
returns g c =
    rw (c.SUBBANDS-subbands.ensures)
    (λ j h. place-back c.args.self.now.newest j c.args.b g.met.B.Bank.bands c.args.self.now.slot h c.requires c.if-self-b-lt10.false)
