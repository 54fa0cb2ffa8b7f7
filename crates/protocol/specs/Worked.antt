-- A worked run: on three accounts by majority, device 1 proposes and decides; device 2 proposes later, reads, and learns that version.
use Rattle.std.specs.Prelude.{ℕ, ◌*◌, false, List, [], ◌∷◌, replicate, nat_lt}
use Rattle.record.specs.declared.value.Value.{Value}
use Rattle.quorum.specs.Rules.{Rule}
use Rattle.protocol.specs.Device.{new_device}
use Rattle.protocol.specs.State.{State}
use Rattle.protocol.specs.Rounds.{members}
use Rattle.protocol.specs.declared.answer.Answer.{Answer}
use Rattle.protocol.specs.declared.answer.Answer.TheVariants.{Done, Attempt, Length, Taken, Holds}
use Rattle.protocol.specs.declared.call.Call.{Call}
use Rattle.protocol.specs.declared.call.Call.TheVariants.{Join, Propose, Send, Read, Known}
use Rattle.protocol.specs.declared.outcome.Outcome.TheVariants.{Waiting, Prepared, Decided}

-- twice the set's size is more than three
abbrev pub majority_of_three : Rule
majority_of_three = record { size = 3; is_quorum = λ S. nat_lt 3 (2 * members S 3) }

abbrev pub three_accounts : State
three_accounts = record { books = replicate 3 (record { log = []; maximum = 64 }); devices = replicate 16 (new_device false) }

abbrev value : ℕ → ℕ → Value
value root setup = record { root = root; setup = setup }

-- the calls, each with what it is answered
abbrev pub worked_run : List (Call × Answer)
worked_run =
    (Join 1, Done)
    ∷ (Join 2, Done)
    ∷ (Propose 1 0 (value 500 7), Attempt 1)
    ∷ (Send 1 0, Length 1)
    ∷ (Send 1 1, Length 1)
    ∷ (Read 1 0, Taken 1 Waiting)
    ∷ (Read 1 1, Taken 1 Prepared)
    ∷ (Send 1 0, Length 2)
    ∷ (Send 1 1, Length 2)
    ∷ (Read 1 0, Taken 1 Waiting)
    ∷ (Read 1 1, Taken 1 Decided)
    ∷ (Propose 2 0 (value 900 8), Attempt 1)
    ∷ (Read 2 0, Taken 2 Waiting)
    ∷ (Read 2 1, Taken 2 Decided)
    ∷ (Known 2, Holds (record { number = 1; value = value 500 7 }))
    ∷ []
