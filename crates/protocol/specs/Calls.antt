-- Each call: what it answers and the state that it leaves, refused or not. d is a device, k an account.
use Rattle.std.specs.Prelude.{ℕ, ◌-◌, true, cond, List, [], ◌∷◌, length, Ok, Err, Result}
use Rattle.record.specs.Checks.{Check}
use Rattle.record.specs.declared.refusal.Refusal.{Refusal}
use Rattle.record.specs.declared.value.Value.{Value}
use Rattle.account.specs.Books.{Book, appended_at}
use Rattle.quorum.specs.Rules.{Rule}
use Rattle.protocol.specs.Codes.{link_of}
use Rattle.protocol.specs.Device.{next_attempt, slot_at, new_device, with_link, sent_to, opened, restarted, request}
use Rattle.protocol.specs.Reading.{caught_up}
use Rattle.protocol.specs.Deciding.{concluded}
use Rattle.protocol.specs.State.{State, log_at, device_at, held, put_device, put_books}
use Rattle.protocol.specs.Refusals.{join_checks, device_checks, link_checks, propose_checks, again_checks, attempt_checks, send_checks, reply_checks, read_checks}
use Rattle.protocol.specs.declared.outcome.Outcome.{Outcome}
use Rattle.protocol.specs.declared.version.Version.{Version}

-- an answer or a refusal, and the state then
abbrev pub Reply : Type 0 → Type 0
Reply X = Result X Refusal × State

-- the first test of the table that holds refuses, and the state is s; where none does, the reply is r
abbrev pub guarded : {X : Type 0} → List Check → State → Reply X → Reply X
guarded [] s r = r
guarded (c ∷ cs) s r = cond c.test (Err c.refusal, s) (guarded cs s r)

abbrev pub joins : State → ℕ → Reply (Unit {0})
joins s d = guarded (join_checks s d) s (Ok tt, put_device s d (new_device true))

abbrev pub links : Rule → State → ℕ → ℕ → ℕ → Reply (Unit {0})
links R s d k l = guarded (link_checks R s d k l) s (Ok tt, put_device s d (with_link (device_at s d) k (link_of l)))

-- a new attempt for the value x
abbrev pub opens : State → ℕ → Value → Reply ℕ
opens s d x =
    guarded (attempt_checks s d) s (Ok (next_attempt (device_at s d)), put_device s d (opened (device_at s d) x))

abbrev pub proposes : State → ℕ → ℕ → Value → Reply ℕ
proposes s d base x = guarded (propose_checks s d base) s (opens s d x)

abbrev pub agains : State → ℕ → Reply ℕ
agains s d = guarded (again_checks s d) s (opens s d (device_at s d).proposed)

-- the account's answer has come back: where the record was appended, the device marks that
abbrev pub delivered : State → ℕ → ℕ → Result ℕ Refusal → State
delivered s d k (Ok n) = put_device s d (sent_to (device_at s d) k)
delivered s d k (Err e) = s

-- the account has answered a .0 and left the books a .1; where its reply is lost, the device learns nothing of that
abbrev pub arrives : State → ℕ → ℕ → Result ℕ Refusal × List Book → Reply ℕ
arrives s d k a = guarded (reply_checks s d k) (put_books s a.1) (a.0, delivered (put_books s a.1) d k a.0)

abbrev pub sends : Rule → State → ℕ → ℕ → Reply ℕ
sends R s d k = guarded (send_checks R s d k) s (arrives s d k (appended_at s.books k (request d (device_at s d))))

-- how many records were read, and what the device concludes from all that it has read
abbrev pub reads : Rule → State → ℕ → ℕ → Reply (ℕ × Outcome)
reads R s d k =
    let v = device_at s d in
    let c = concluded R d (caught_up d v k (log_at s k)) in
    guarded (read_checks R s d k) s (Ok (length (log_at s k) - (slot_at v k).place, c.0), put_device s d c.1)

abbrev pub restarts : State → ℕ → Reply (Unit {0})
restarts s d = guarded (device_checks s d) s (Ok tt, put_device s d (restarted (device_at s d)))

abbrev pub knows : State → ℕ → Reply Version
knows s d = guarded (device_checks s d) s (Ok (held s d), s)
