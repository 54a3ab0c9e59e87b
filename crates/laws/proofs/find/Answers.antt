-- `find` meets its contract: the library's first place is the definition's.
-- Assumes nothing.
use Rattle.std.proofs.Common.{rules, tests, nat_eq}
use Rattle.std.proofs.lemmas.Iterator.{YieldsList-from_slice}
use Rattle.std.proofs.lemmas.Iterator.Search.{position_from_yields_List}
use Rattle.laws.specs.Lists.{listed}
use Rattle.laws.proofs.Tests.{index_is}
use Rattle.laws.proofs.find.Goals as goal

pub returns : goal.returns
unfolding listed
returns c =
    rw index_is
    (position_from_yields_List (nat_eq c.args.value) _ _ _ c.position.ensures.ran (YieldsList-from_slice _ c.iter.ensures.rest)
    (λ x b q k. search (rules, tests)))
