-- What the program's records mean: the states of the protocol.
use Rattle.std.specs.Prelude.{ℕ, false, cond, List, [], ◌∷◌, Some, None, Ok, Err, Option, Result, nat_lt, slice_index_or, slice_set}
use Rattle.record.specs.Checks.{when, unless}
use Rattle.record.specs.Entry.{Entry}
use Rattle.record.specs.declared.refusal.Refusal.{Refusal}
use Rattle.record.specs.declared.refusal.Refusal.TheVariants.{NoAttemptLeft}
use Rattle.record.specs.declared.value.Value.{Value}
use Rattle.account.specs.Books.{Book}
use Rattle.quorum.specs.Rules.{Rule}
use Rattle.protocol.specs.State.{State, no_book}
use Rattle.protocol.specs.Device as model
use Rattle.protocol.specs.Reading.{notes_after}
use Rattle.protocol.specs.declared.notes.Notes.{Notes}
use Rattle.group.specs.declared.group.Group.{Group}

abbrev pub device_in : List model.Device → ℕ → model.Device
device_in vs d = slice_index_or vs d (model.new_device false)

-- device d, if there is one
abbrev pub sought : List model.Device → ℕ → Option model.Device
sought vs d = cond (nat_lt 15 d) None (Some (device_in vs d))

-- the next attempt of a device, unless there is none
abbrev pub next_in : model.Device → Result ℕ Refusal
next_in v = unless (when (nat_lt model.last_attempt (model.next_attempt v)) NoAttemptLeft ∷ []) (model.next_attempt v)

abbrev pub log_of : List Book → ℕ → List Entry
log_of bs k = (slice_index_or bs k no_book).log

-- what device d has noted of account k of several, once it has read to the end
abbrev pub notes_from : ℕ → model.Device → List Book → ℕ → Notes
notes_from d v bs k = notes_after d v k (log_of bs k)

-- account k is read up to a place, with these notes
abbrev pub caught_up_to : model.Device → ℕ → ℕ → Notes → model.Device
caught_up_to v k place n =
    model.with_slot v k (record (model.slot_at v k) { place = place; view = n.view; own = n.own }) n.seen

-- device d begins its next attempt for the value x, unless there is none
abbrev pub attempted_in : List model.Device → ℕ → Value → Result ℕ Refusal × List model.Device
attempted_in vs d x =
    let v = device_in vs d in
    cond (nat_lt model.last_attempt (model.next_attempt v)) (Err NoAttemptLeft, vs) (Ok (model.next_attempt v), slice_set vs d (model.opened v x))

abbrev pub state_of : List Book → List model.Device → State
state_of bs vs = record { books = bs; devices = vs }

-- a group: its rule, the names of the memory that its accounts were lent, and its state
pub record Model : Type 0 where
  pub rule : Rule
  pub lent : List ℕ
  pub state : State

abbrev pub model_of : {A Q : Type 0} → (A → List Book) → (A → List ℕ) → (Q → Rule) → Group A Q → Model
model_of books lent rule g =
    record { rule = rule g.quorum; lent = lent g.accounts; state = state_of (books g.accounts) g.table }
