use Rattle.std.proofs.Common.{◌≡◌, drop}
use Rattle.group.specs.Founding.{all_empty}
use Rattle.group.proofs.found.all_empty.Given as goal

abbrev pub invariant-loop-k : goal.invariant-loop-k
invariant-loop-k g l = let bs = g.A.Accounts.books l.accounts in all_empty (drop l.k bs) ≡ all_empty bs
