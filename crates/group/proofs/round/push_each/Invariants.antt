use Rattle.std.proofs.Common.{take, vec_items}
use Rattle.group.specs.Rounds.{AddsEach}
use Rattle.group.proofs.round.push_each.Given as goal

abbrev pub invariant-loop-account : goal.invariant-loop-account
invariant-loop-account g l =
    AddsEach (λ k x. g.F.Fn.post l.call (k, tt) x) (take l.account-index l.accounts) (vec_items l.initial.calls) (vec_items l.calls)
