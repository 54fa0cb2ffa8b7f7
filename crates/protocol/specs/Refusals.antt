-- What each call refuses, in the order in which it is checked: d is a device, k an account.
use Rattle.std.specs.Prelude.{ℕ, Bool, true, false, not, List, [], ◌∷◌, ◌++◌, ◌==◌, nat_le, nat_lt}
use Rattle.record.specs.Checks.{Check, when}
use Rattle.record.specs.declared.refusal.Refusal.TheVariants as why
use Rattle.quorum.specs.Rules.{Rule}
use Rattle.protocol.specs.Device.{last_version, last_attempt, is_open, next_attempt, link_at, slot_at}
use Rattle.protocol.specs.State.{State, device_at}
use Rattle.protocol.specs.declared.link.Link.{Link}
use Rattle.protocol.specs.declared.link.Link.TheVariants.{Down, RepliesLost}

abbrev pub is_down : Link → Bool
is_down Down = true
is_down _ = false

abbrev pub loses_replies : Link → Bool
loses_replies RepliesLost = true
loses_replies _ = false

abbrev pub join_checks : State → ℕ → List Check
join_checks s d = when (nat_lt 15 d) why.NoSuchDevice ∷ when (device_at s d).joined why.AlreadyJoined ∷ []

-- every call but join
abbrev pub device_checks : State → ℕ → List Check
device_checks s d = when (nat_lt 15 d) why.NoSuchDevice ∷ when (not (device_at s d).joined) why.NotJoined ∷ []

-- every call that names an account
abbrev pub account_checks : Rule → State → ℕ → ℕ → List Check
account_checks R s d k = device_checks s d ++ when (nat_le R.size k) why.NoSuchAccount ∷ []

abbrev pub link_checks : Rule → State → ℕ → ℕ → ℕ → List Check
link_checks R s d k l = account_checks R s d k ++ when (nat_lt 2 l) why.NoSuchLinkState ∷ []

abbrev pub propose_checks : State → ℕ → ℕ → List Check
propose_checks s d base =
    device_checks s d
    ++ when (is_open (device_at s d).phase) why.ProposalOpen
    ∷ when (not (base == (device_at s d).known)) why.OtherBase
    ∷ when ((device_at s d).known == last_version) why.LastVersion
    ∷ []

abbrev pub again_checks : State → ℕ → List Check
again_checks s d = device_checks s d ++ when (not (is_open (device_at s d).phase)) why.NoProposal ∷ []

-- propose and again, after their own
abbrev pub attempt_checks : State → ℕ → List Check
attempt_checks s d = when (nat_lt last_attempt (next_attempt (device_at s d))) why.NoAttemptLeft ∷ []

-- send, before its request leaves
abbrev pub send_checks : Rule → State → ℕ → ℕ → List Check
send_checks R s d k =
    account_checks R s d k
    ++ when (not (is_open (device_at s d).phase)) why.NoProposal
    ∷ when (slot_at (device_at s d) k).sent why.AlreadySent
    ∷ when (is_down (link_at (device_at s d) k)) why.LinkDown
    ∷ []

-- send, once its request has arrived: no reply comes back. Else the account's own refusal follows
abbrev pub reply_checks : State → ℕ → ℕ → List Check
reply_checks s d k = when (loses_replies (link_at (device_at s d) k)) why.RepliesLost ∷ []

abbrev pub read_checks : Rule → State → ℕ → ℕ → List Check
read_checks R s d k = account_checks R s d k ++ when (is_down (link_at (device_at s d) k)) why.LinkDown ∷ reply_checks s d k
