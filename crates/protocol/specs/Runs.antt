-- Runs: lists of calls, refused ones included, from any state.
use Rattle.std.specs.Prelude.{◌≡◌, ℕ, zero, suc, false, List, [], ◌∷◌, length, replicate, Ok, Err, Result, slice_index_or}
use Rattle.record.specs.declared.refusal.Refusal.{Refusal}
use Rattle.quorum.specs.Rules.{Rule}
use Rattle.protocol.specs.Device.{new_device}
use Rattle.protocol.specs.State.{State, log_at}
use Rattle.protocol.specs.Calls.{Reply, joins, links, proposes, sends, reads, agains, restarts, knows}
use Rattle.protocol.specs.declared.answer.Answer.{Answer}
use Rattle.protocol.specs.declared.answer.Answer.TheVariants.{Refused, Done, Attempt, Length, Taken, Holds}
use Rattle.protocol.specs.declared.call.Call.{Call}
use Rattle.protocol.specs.declared.call.Call.TheVariants.{Join, SetLink, Propose, Send, Read, Again, Restart, Known}

-- a new group: each account that the rule counts is there and empty, and nobody has joined
pub record New (R : Rule) (s : State) : Type 0 where
  pub accounts : length s.books ≡ R.size
  pub empty : (k : ℕ) → log_at s k ≡ []
  pub devices : s.devices ≡ replicate 16 (new_device false)

abbrev pub answer_by : {X : Type 0} → (X → Answer) → Result X Refusal → Answer
answer_by f (Ok x) = f x
answer_by f (Err e) = Refused e

abbrev pub to_answer : {X : Type 0} → (X → Answer) → Reply X → Answer × State
to_answer f r = (answer_by f r.0, r.1)

-- what one call is answered, and the state that it leaves
unfoldable pub step : Rule → State → Call → Answer × State
step R s (Join d) = to_answer (λ _. Done) (joins s d)
step R s (SetLink d k l) = to_answer (λ _. Done) (links R s d k l)
step R s (Propose d base x) = to_answer Attempt (proposes s d base x)
step R s (Send d k) = to_answer Length (sends R s d k)
step R s (Read d k) = to_answer (λ t. Taken t.0 t.1) (reads R s d k)
step R s (Again d) = to_answer Attempt (agains s d)
step R s (Restart d) = to_answer (λ _. Done) (restarts s d)
step R s (Known d) = to_answer Holds (knows s d)

-- what all of the calls are answered, and the state in the end
unfoldable pub runs : Rule → State → List Call → List Answer × State
runs R s [] = ([], s)
runs R s (c ∷ cs) =
    let now = step R s c in
    let rest = runs R now.1 cs in
    (now.0 ∷ rest.0, rest.1)

-- call t, counted from 0; past the end nothing happens
abbrev pub call_at : List Call → ℕ → Call
call_at cs t = slice_index_or cs t (Known 0)

-- the state after the first t calls
unfoldable pub after : Rule → State → List Call → ℕ → State
after R s cs zero = s
after R s cs (suc t) = (step R (after R s cs t) (call_at cs t)).1

-- what call t was answered
unfoldable pub said : Rule → State → List Call → ℕ → Answer
said R s cs t = (step R (after R s cs t) (call_at cs t)).0
