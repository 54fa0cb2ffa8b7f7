use Rattle.std.proofs.Common.{nat_lt, rules, tests}
use Rattle.std.proofs.lemmas.Iterator.{YieldsList-from_slice}
use Rattle.std.proofs.lemmas.Iterator.Search.{any_from_yields_List}
use Rattle.protocol.specs.Deciding.{any_above}
use Rattle.group.proofs.tally.any_above.Goals as goal

pub returns : goal.returns
unfolding any_above
returns c = any_from_yields_List (λ s. nat_lt c.args.ballot s.view.promised) _ _ c.any.result c.any.ensures.ran (YieldsList-from_slice c.args.slots.now cc) (λ x b q k. search (rules, tests))
