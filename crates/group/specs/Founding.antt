-- When a group can be founded, and what it then is.
use Rattle.std.specs.Prelude.{◌≡◌, ℕ, Bool, true, false, not, ◌&&◌, List, [], ◌∷◌, length, replicate, Ok, Err, vec_items, Result, ◌==◌}
use Rattle.record.specs.Checks.{when, unless}
use Rattle.record.specs.declared.refusal.Refusal.{Refusal}
use Rattle.record.specs.declared.refusal.Refusal.TheVariants.{QuorumOfOtherSize, NotEmpty}
use Rattle.account.specs.Books.{Book}
use Rattle.quorum.specs.Rules.{Rule}
use Rattle.protocol.specs.State.{State}
use Rattle.protocol.specs.Device.{new_device}
use Rattle.protocol.specs.Runs.{runs}
use Rattle.protocol.specs.declared.call.Call.{Call}
use Rattle.group.specs.Models.{Model}
use Rattle.group.specs.declared.found.NotRun.{NotRun}
use Rattle.group.specs.declared.found.NotRun.TheVariants.{Refused, NoMemory}
use Rattle.group.specs.declared.found.Replay.{Replay}

abbrev pub all_empty : List Book → Bool
all_empty [] = true
all_empty (b ∷ bs) = length b.log == 0 && all_empty bs

abbrev pub founding : Rule → List Book → Result (Unit {0}) Refusal
founding R bs = unless (when (not (length bs == R.size)) QuorumOfOtherSize ∷ when (not (all_empty bs)) NotEmpty ∷ []) tt

-- nobody has joined
abbrev pub new_state : List Book → State
new_state bs = record { books = bs; devices = replicate 16 (new_device false) }

abbrev pub new_model : Rule → List ℕ → List Book → Model
new_model R names bs = record { rule = R; lent = names; state = new_state bs }

-- a group is founded on these books and the calls cs are made: their answers, and the devices in the end. Else no call is made
abbrev pub Replayed : Rule → List Book → List Call → Result Replay NotRun → Type 0
Replayed R bs cs (Ok p) =
    (vec_items p.answers ≡ (runs R (new_state bs) cs).0) × (p.devices ≡ (runs R (new_state bs) cs).1.devices)
Replayed R bs cs (Err (Refused d)) = Err d ≡ founding R bs
Replayed R bs cs (Err (NoMemory e)) = founding R bs ≡ Ok tt
