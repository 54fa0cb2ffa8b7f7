use Rattle.std.proofs.Common.{◌≡◌, ◌+◌, ◌*◌, ◌≤◌, length, take}
use Rattle.quorum.proofs.Counting.{weighed}
use Rattle.quorum.proofs.weighted.WeightedQuorum.is_quorum.Given as goal

-- what was weighed and what is still to come are all, and fit
abbrev pub invariant-loop-marked : goal.invariant-loop-marked
invariant-loop-marked l =
    (l.weight + weighed l.marked-iterator.a.rest.now l.marked-iterator.b.rest.now ≡ weighed l.fn.set (take l.self.n l.self.weights))
    × (l.weight + 255 * length l.marked-iterator.b.rest.now ≤ 1785)
