-- What a device concludes from all that it has read.
use Rattle.std.specs.Prelude.{ℕ, Bool, cond, not, ◌&&◌, List, [], ◌∷◌, map, Some, None, fold, Option, ◌==◌, nat_eq, nat_lt}
use Rattle.std.specs.List.{list_any}
use Rattle.record.specs.declared.value.Value.{Value}
use Rattle.journal.specs.Log.{unread}
use Rattle.journal.specs.declared.view.View.{View}
use Rattle.quorum.specs.Rules.{Set, marked, Rule}
use Rattle.protocol.specs.Device.{last_version, Device, is_open, is_preparing, own_ballot, carrying, decided}
use Rattle.protocol.specs.declared.outcome.Outcome.{Outcome}
use Rattle.protocol.specs.declared.outcome.Outcome.TheVariants.{Waiting, Prepared, Decided, Preempted}
use Rattle.protocol.specs.declared.slot.Slot.{Slot}

-- the accounts with an own mark
abbrev pub own_marks : List Slot → Set
own_marks ss = marked (map (λ s. s.own) ss)

-- the accounts at which ballot b is the highest accepted one
abbrev pub accepting : ℕ → List Slot → Set
accepting b ss = marked (map (λ s. nat_eq s.view.accepted b) ss)

-- the accounts at which ballot b is the highest promised one
abbrev pub promising : ℕ → List Slot → Set
promising b ss = marked (map (λ s. nat_eq s.view.promised b) ss)

-- the slot's accepted ballot is nonzero, and a quorum of all slots has it
abbrev pub is_agreed : Rule → List Slot → Slot → Bool
is_agreed R all s = not (s.view.accepted == 0) && R.is_quorum (accepting s.view.accepted all)

-- the value of the first of the slots for which that holds
unfoldable pub agreed_value : Rule → List Slot → List Slot → Option Value
agreed_value R all [] = None
agreed_value R all (s ∷ ss) = cond (is_agreed R all s) (Some s.view.value) (agreed_value R all ss)

-- some promised ballot is above b
unfoldable pub any_above : ℕ → List Slot → Bool
any_above b ss = list_any (λ s. nat_lt b s.view.promised) ss

-- the higher accepted ballot, the earlier of equals
abbrev pub higher : View → Slot → View
higher best s = cond (nat_lt best.accepted s.view.accepted) s.view best

-- the view with the highest accepted ballot of all, the lowest account on a tie
abbrev pub highest : List Slot → View
highest ss = fold higher unread ss

-- the value to carry: that of the highest accepted ballot, or the proposed one where nothing was accepted
abbrev pub choice : Device → Value
choice v = cond ((highest v.slots).accepted == 0) v.proposed (highest v.slots).value

-- the value of the next version, if what was read decides it. No record is of a version past the last
unfoldable pub decision : Rule → Device → Option Value
decision R v =
    cond (v.known == last_version) None
    (cond (R.is_quorum (own_marks v.slots)) (Some v.carried) (agreed_value R v.slots v.slots))

-- while nothing is decided
abbrev pub undecided : Rule → ℕ → Device → Outcome × Device
undecided R d v =
    let b = own_ballot d v in
    cond (is_open v.phase && any_above b v.slots) (Preempted, v)
    (cond (is_preparing v.phase && R.is_quorum (promising b v.slots)) (Prepared, carrying v (choice v)) (Waiting, v))

abbrev pub concluded_by : Rule → ℕ → Device → Option Value → Outcome × Device
concluded_by R d v (Some x) = (Decided, decided v x)
concluded_by R d v None = undecided R d v

-- the outcome for device d, and what the device then holds
abbrev pub concluded : Rule → ℕ → Device → Outcome × Device
concluded R d v = concluded_by R d v (decision R v)
