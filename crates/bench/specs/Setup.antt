-- The bench's accounts.
use Rattle.std.specs.Prelude.{◌≡◌, List, [], ◌∷◌, Ok, Err, Result}
use Rattle.record.specs.declared.refusal.Refusal.{Refusal}
use Rattle.account.specs.Books.{Book, empty}
use Rattle.quorum.specs.Rules.{Rule}
use Rattle.group.specs.Founding.{founding, new_state}
use Rattle.group.specs.declared.found.NotRun.{NotRun}
use Rattle.group.specs.declared.found.NotRun.TheVariants.{Refused, NoMemory}
use Rattle.protocol.specs.State.{State}

-- three empty accounts with room for 64 records each
abbrev pub three_books : List Book
three_books = empty 64 ∷ empty 64 ∷ empty 64 ∷ []

-- a new group over them
abbrev pub three_accounts : State
three_accounts = new_state three_books

-- whether there is a rule that such a group can be founded with
abbrev pub founding_by : Result Rule Refusal → Result (Unit {0}) Refusal
founding_by (Ok R) = founding R three_books
founding_by (Err d) = Err d

-- no call is made for one of two reasons: there is no such group, or no memory
abbrev pub NotMade : {A : Type 0} → Result Rule Refusal → Result A NotRun → Type 0
NotMade rule (Ok _) = Unit
NotMade rule (Err (Refused d)) = Err d ≡ founding_by rule
NotMade rule (Err (NoMemory e)) = founding_by rule ≡ Ok tt
