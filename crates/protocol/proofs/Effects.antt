-- What a call can do: each way that it can go, with what was tested on the way. All else rests on this and not on the calls' definitions.
use Rattle.std.proofs.Common.{◌≡◌, ℕ, ◌<◌, ◌≤◌, Bool, true, false, ◌&&◌, ltb, List, [], ◌∷◌, length, Some, None, Ok, Err, Option, Result, sym, refl, subst, ⊎_elim, arith}
use Rattle.std.proofs.lemmas.Bool.{cond_both, and_parts, eqb-true, eqb-false, ltb-false, leb-false, not-false}
use Rattle.record.specs.declared.refusal.Refusal.{Refusal}
use Rattle.record.specs.declared.refusal.Refusal.TheVariants as why
use Rattle.record.specs.Checks.{Check, when}
use Rattle.record.specs.declared.value.Value.{Value}
use Rattle.account.specs.Books.{Book, appended_at}
use Rattle.quorum.specs.Rules.{Rule}
use Rattle.protocol.specs.Codes.{link_of}
use Rattle.protocol.specs.Device.{last_version, last_attempt, Device, is_open, is_preparing, next_attempt, own_ballot, link_at, new_device, with_link, sent_to, opened, carrying, restarted, decided, request}
use Rattle.protocol.specs.Reading.{caught_up}
use Rattle.protocol.specs.Deciding.{promising, any_above, choice, decision, concluded_by, concluded}
use Rattle.protocol.specs.State.{State, log_at, device_at, put_device, held}
use Rattle.protocol.specs.Refusals.{loses_replies, device_checks, join_checks, link_checks, propose_checks, again_checks, attempt_checks, send_checks, read_checks}
use Rattle.protocol.specs.Calls.{Reply, guarded, opens, arrives}
use Rattle.protocol.specs.Runs.{to_answer, step}
use Rattle.protocol.specs.declared.answer.Answer.{Answer}
use Rattle.protocol.specs.declared.answer.Answer.TheVariants.{Refused, Done, Attempt, Length, Taken, Holds}
use Rattle.protocol.specs.declared.call.Call.{Call}
use Rattle.protocol.specs.declared.call.Call.TheVariants.{Join, SetLink, Propose, Send, Read, Again, Restart, Known}
use Rattle.protocol.specs.declared.outcome.Outcome.{Outcome}
use Rattle.protocol.specs.declared.outcome.Outcome.TheVariants.{Waiting, Prepared, Decided, Preempted}
use Rattle.protocol.proofs.Guards.{Clear, guarded-cases}
use Rattle.protocol.proofs.Accounts.{appended-cases, append_to}

-- what device d concludes, with record v, and what it then holds
pub data Conclusion (R : Rule) (d : ℕ) (v : Device) : Outcome → Device → Type 0 where
  decides : (x : Value) → decision R v ≡ Some x → Conclusion R d v Decided (decided v x)
  preempts : decision R v ≡ None → any_above (own_ballot d v) v.slots ≡ true → Conclusion R d v Preempted v
  prepares : decision R v ≡ None → is_preparing v.phase ≡ true → R.is_quorum (promising (own_ballot d v) v.slots) ≡ true
      → Conclusion R d v Prepared (carrying v (choice v))
  waits : decision R v ≡ None → (is_preparing v.phase && R.is_quorum (promising (own_ballot d v) v.slots)) ≡ false → Conclusion R d v Waiting v

pub conclusion : (R : Rule) (d : ℕ) (v : Device) → Conclusion R d v (concluded R d v).0 (concluded R d v).1
conclusion R d v = by (decision R v) refl
  where
    Is : Outcome × Device → Type 0
    Is c = Conclusion R d v c.0 c.1

    by : (o : Option Value) → decision R v ≡ o → Is (concluded_by R d v o)
    by (Some x) e = decides x e
    by None e =
        cond_both (is_open v.phase && any_above (own_ballot d v) v.slots) _ _ Is
        (λ t. preempts e (and_parts (is_open v.phase) _ t).1)
        (λ _. cond_both (is_preparing v.phase && R.is_quorum (promising (own_ballot d v) v.slots)) _ _ Is
        (λ t. let q = and_parts (is_preparing v.phase) _ t in prepares e q.0 q.1)
        (λ t. waits e t))

-- a call of device d, its answer, and what it makes of the device's record
pub data Change (R : Rule) (s : State) (d : ℕ) : Call → Answer → Device → Type 0 where
  joins : (device_at s d).joined ≡ false → Change R s d (Join d) Done (new_device true)
  links : (k l : ℕ) → (device_at s d).joined ≡ true → Change R s d (SetLink d k l) Done (with_link (device_at s d) k (link_of l))
  proposes : (b : ℕ) (x : Value) → (device_at s d).joined ≡ true → is_open (device_at s d).phase ≡ false → b ≡ (device_at s d).known
      → ((device_at s d).known ≡ last_version → ⊥) → next_attempt (device_at s d) ≤ last_attempt
      → Change R s d (Propose d b x) (Attempt (next_attempt (device_at s d))) (opened (device_at s d) x)
  retries : (device_at s d).joined ≡ true → is_open (device_at s d).phase ≡ true → next_attempt (device_at s d) ≤ last_attempt
      → Change R s d (Again d) (Attempt (next_attempt (device_at s d))) (opened (device_at s d) (device_at s d).proposed)
  reads : {o : Outcome} {v : Device} (k n : ℕ) → (device_at s d).joined ≡ true → k < R.size
      → Conclusion R d (caught_up d (device_at s d) k (log_at s k)) o v → Change R s d (Read d k) (Taken n o) v
  restarts : (device_at s d).joined ≡ true → Change R s d (Restart d) Done (restarted (device_at s d))

-- a device with an open proposal, and an account that there is
pub record Sender (R : Rule) (s : State) (d k : ℕ) : Type 0 where
  pub low : d < 16
  pub joined : (device_at s d).joined ≡ true
  pub account : k < R.size
  pub isopen : is_open (device_at s d).phase ≡ true

-- a call, its answer, and the state that it leaves
pub data Effect (R : Rule) (s : State) : Call → Answer → State → Type 0 where
  refused : {c : Call} (e : Refusal) → Effect R s c (Refused e) s
  tells : (d : ℕ) → Effect R s (Known d) (Holds (held s d)) s
  changes : {c : Call} {a : Answer} {v : Device} (d : ℕ) → d < 16 → Change R s d c a v → Effect R s c a (put_device s d v)
  loses : (d k : ℕ) (e : Refusal) → Sender R s d k → Effect R s (Send d k) (Refused e) (append_to s k (request d (device_at s d)))
  sends : (d k n : ℕ) → Sender R s d k
      → Effect R s (Send d k) (Length n) (put_device (append_to s k (request d (device_at s d))) d (sent_to (device_at s d) k))

module _ (R : Rule) (s : State) (accounts : R.size ≤ length s.books) where
  abbrev Does : Call → Answer × State → Type 0
  Does c r = Effect R s c r.0 r.1

  -- a call whose checks all pass
  passing : {X : Type 0} (c : Call) (cs : List Check) (f : X → Answer) (r : Reply X)
      → (Clear cs → Does c (to_answer f r)) → Does c (to_answer f (guarded cs s r))
  passing c cs f r h = guarded-cases cs s r (λ z. Does c (to_answer f z)) refused h

  low : (d : ℕ) → ltb 15 d ≡ false → d < 16
  low d e = omega (arith, ltb-false 15 d e)

  -- a new attempt for the value x
  attempts : (c : Call) (d : ℕ) (x : Value) → d < 16
      → (next_attempt (device_at s d) ≤ last_attempt → Change R s d c (Attempt (next_attempt (device_at s d))) (opened (device_at s d) x))
      → Does c (to_answer Attempt (opens s d x))
  attempts c d x l h = passing c (attempt_checks s d) Attempt _ (λ t. changes d l (h (ltb-false last_attempt _ t.0)))

  -- a request that arrives
  sending : (d k : ℕ) → Sender R s d k
      → Does (Send d k) (to_answer Length (arrives s d k (appended_at s.books k (request d (device_at s d)))))
  sending d k p =
      ⊎_elim (λ t. subst By (sym t.1) (full lost)) (λ t. subst By (sym t.1) (free lost _))
      (appended-cases s.books k (request d (device_at s d)) (omega (arith, accounts, p.account)))
    where
      By : Result ℕ Refusal × List Book → Type 0
      By a = Does (Send d k) (to_answer Length (arrives s d k a))

      lost : Bool
      lost = loses_replies (link_at (device_at s d) k)

      full : (b : Bool) → Does (Send d k) (to_answer Length (guarded (when b why.RepliesLost ∷ []) s (Err why.Full, s)))
      full true = refused _
      full false = refused _

      free : (b : Bool) (n : ℕ) → Does (Send d k) (to_answer Length
          (guarded (when b why.RepliesLost ∷ []) (append_to s k (request d (device_at s d)))
          (Ok n, put_device (append_to s k (request d (device_at s d))) d (sent_to (device_at s d) k))))
      free true n = loses d k _ p
      free false n = sends d k n p

  pub effect : (c : Call) → Effect R s c (step R s c).0 (step R s c).1
  unfolding step
  effect (Join d) = passing (Join d) (join_checks s d) _ _ (λ t. changes d (low d t.0) (joins t.1.0))
  effect (SetLink d k l) =
      passing (SetLink d k l) (link_checks R s d k l) _ _ (λ t. changes d (low d t.0) (links k l (not-false _ t.1.0)))
  effect (Propose d b x) =
      passing (Propose d b x) (propose_checks s d b) Attempt _
      (λ t. attempts (Propose d b x) d x (low d t.0)
      (λ l. proposes b x (not-false _ t.1.0) t.1.1.0 (eqb-true b _ (not-false _ t.1.1.1.0)) (eqb-false _ last_version t.1.1.1.1.0) l))
  effect (Again d) =
      passing (Again d) (again_checks s d) Attempt _
      (λ t. attempts (Again d) d _ (low d t.0) (λ l. retries (not-false _ t.1.0) (not-false _ t.1.1.0) l))
  effect (Send d k) =
      passing (Send d k) (send_checks R s d k) Length _
      (λ t. sending d k
      (record { low = low d t.0; joined = not-false _ t.1.0; account = leb-false R.size k t.1.1.0; isopen = not-false _ t.1.1.1.0 }))
  effect (Read d k) =
      passing (Read d k) (read_checks R s d k) _ _
      (λ t. changes d (low d t.0) (reads k _ (not-false _ t.1.0) (leb-false R.size k t.1.1.0) (conclusion R d _)))
  effect (Restart d) = passing (Restart d) (device_checks s d) _ _ (λ t. changes d (low d t.0) (restarts (not-false _ t.1.0)))
  effect (Known d) = passing (Known d) (device_checks s d) Holds _ (λ _. tells d)
