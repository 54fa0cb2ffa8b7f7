use Rattle.std.proofs.Common.{◌≡◌, ◌≤◌, length, take, vec_items, vec_len, vec_capacity}
use Rattle.group.specs.Acts.{runs_on}
use Rattle.group.proofs.calls.Calls.run.Given as goal

-- the answers so far and the group are those of the calls so far
abbrev pub invariant-loop-call : goal.invariant-loop-call
invariant-loop-call g l =
    (vec_len l.answers ≡ l.call-index)
    × (length l.calls ≤ vec_capacity l.answers)
    × ((vec_items l.answers, g.Self.Calls.model l.self)
    ≡ runs_on (g.Self.Calls.model l.initial.self) (take l.call-index l.calls))
