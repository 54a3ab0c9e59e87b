-- A turn codes what is held and reads on; so does the last, whose read brings none.
-- Assumes nothing.
use Rattle.std.proofs.Common.{rules}
use Rattle.stream.proofs.Runs.{none-came, more-came, going-on}
use Rattle.stream.proofs.running.code_coming.Goals as goal

pub loop-init : goal.loop-init
loop-init g c = none-came _ _ _

pub loop-preserved : goal.loop-preserved
loop-preserved g c =
    let i = c.loop.invariant in
    let h = c.in_ok-code_held.ensures.coded in
    let r = c.read_on.ensures in
    more-came _ _ _ _ _ _ _ i.1 i.2 h.1 h.2 r.bytes r.came r.held

pub returns-then-read_on-eq0-clause-coded : goal.returns-then-read_on-eq0-clause-coded
returns-then-read_on-eq0-clause-coded g c =
    let i = c.loop.invariant in
    let h = c.in_ok-code_held.ensures.coded in
    let r = c.read_on.ensures in
    more-came _ _ _ _ _ _ _ i.1 i.2 h.1 h.2 r.bytes r.came r.held

pub returns-in_err-code_held-clause-refused : goal.returns-in_err-code_held-clause-refused
returns-in_err-code_held-clause-refused g c = search (rules, going-on)
