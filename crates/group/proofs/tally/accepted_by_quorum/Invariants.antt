use Rattle.std.proofs.Common.{◌≡◌, drop}
use Rattle.protocol.specs.Deciding.{agreed_value}
use Rattle.group.proofs.tally.accepted_by_quorum.Given as goal

abbrev pub invariant-loop-slot : goal.invariant-loop-slot
invariant-loop-slot g l =
    let R = g.Q.Quorum.rule l.quorum in
    agreed_value R l.slots (drop l.slot-index l.slots) ≡ agreed_value R l.slots l.slots
