-- Calls over an up link that are not refused, seen from the device that makes them: what they leave of its record and of the accounts.
use Rattle.std.proofs.Common.{◌≡◌, ℕ, ◌+◌, ◌-◌, ◌<◌, ◌≤◌, Bool, true, false, not, ◌&&◌, ltb, ◌≢◌, ◌⊎◌, length, None, sym, refl, ap, ◌∙◌, subst, inl, inr, ⊎_elim, arith, get_or-set_other, get_or-set_same}
use Rattle.std.proofs.lemmas.Bool.{cases_eq, false≢true, le-ltb, lt-leb, ne_eqb}
use Rattle.record.specs.declared.value.Value.{Value}
use Rattle.account.specs.Books.{is_full, grown}
use Rattle.quorum.specs.Rules.{Rule, Lawful}
use Rattle.protocol.specs.Device.{last_attempt, Device, is_open, is_preparing, is_accepting, next_attempt, own_ballot, fresh, link_at, slot_at, new_device, with_sent, sent_to, opened, carrying, request}
use Rattle.protocol.specs.Reading.{slot_after, caught_up}
use Rattle.protocol.specs.Deciding.{own_marks, promising, decision, concluded}
use Rattle.protocol.specs.State.{State, book_at, log_at, device_at, put_device}
use Rattle.protocol.specs.Refusals.{is_down, loses_replies, again_checks, attempt_checks, send_checks, reply_checks, read_checks}
use Rattle.protocol.specs.Calls.{arrives}
use Rattle.protocol.specs.Runs.{to_answer, step}
use Rattle.protocol.specs.declared.answer.Answer.{Answer}
use Rattle.protocol.specs.declared.answer.Answer.TheVariants.{Attempt, Length, Taken}
use Rattle.protocol.specs.declared.call.Call.TheVariants.{Send, Read, Again}
use Rattle.protocol.specs.declared.link.Link.TheVariants.{Up}
use Rattle.protocol.specs.declared.outcome.Outcome.{Outcome}
use Rattle.protocol.specs.declared.outcome.Outcome.TheVariants.{Decided}
use Rattle.protocol.specs.declared.phase.Phase.TheVariants.{Accepting}
use Rattle.protocol.specs.declared.slot.Slot.{Slot}
use Rattle.protocol.proofs.Accounts.{appended-cases, append_to, book-here, book-there}
use Rattle.protocol.proofs.Effects.{Conclusion, decides, preempts, prepares, waits, conclusion}
use Rattle.protocol.proofs.Guards.{guarded-clear}
use Rattle.protocol.proofs.Invariant.{Inv}
use Rattle.protocol.proofs.Lists.{get_or-mapped}
use Rattle.protocol.proofs.Passes.{Deciding}
use Rattle.protocol.proofs.Phases.{accepting-open, not-both}
use Rattle.protocol.proofs.Tallies.{none_above, undecided-own}
use Rattle.protocol.proofs.Turns.{Calm, calm-minor, calm_read}

-- every proposal counts as opened: what of the invariant does not ask which were
abbrev pub Any : ℕ → Value → Type 0
Any b x = Unit {0}

-- the device exists and has joined
pub record Present (s : State) (d : ℕ) : Type 0 where
  pub low : d < 16
  pub joined : (device_at s d).joined ≡ true

module _ (R : Rule) (s : State) (d : ℕ) (p : Present s d) where
  exists : ltb 15 d ≡ false
  exists = le-ltb 15 d (omega (arith, p.low))

  -- again is not refused, and opens the same proposal anew
  pub again-runs : is_open (device_at s d).phase ≡ true → next_attempt (device_at s d) ≤ last_attempt
      → step R s (Again d) ≡ (Attempt (next_attempt (device_at s d)), put_device s d (opened (device_at s d) (device_at s d).proposed))
  unfolding step
  again-runs o l =
      ap (to_answer Attempt)
      (guarded-clear (again_checks s d) s _ (exists, (ap not p.joined, (ap not o, tt)))
      ∙ guarded-clear (attempt_checks s d) s _ (le-ltb last_attempt _ l, tt))

  module _ (k : ℕ) (kn : k < R.size) (up : link_at (device_at s d) k ≡ Up) where
    abbrev caught : Device
    caught = caught_up d (device_at s d) k (log_at s k)

    -- a read is not refused, and concludes
    read-runs : step R s (Read d k)
        ≡ (Taken (length (log_at s k) - (slot_at (device_at s d) k).place) (concluded R d caught).0, put_device s d (concluded R d caught).1)
    unfolding step
    read-runs =
        ap (to_answer (λ (t : ℕ × Outcome). Taken t.0 t.1))
        (guarded-clear (read_checks R s d k) s _
        (exists, (ap not p.joined, (lt-leb R.size k kn, (ap is_down up, (ap loses_replies up, tt))))))

    -- a send to an account with room is not refused, and appends
    send-runs : k < length s.books → is_open (device_at s d).phase ≡ true → (slot_at (device_at s d) k).sent ≡ false → is_full (book_at s k) ≡ false
        → step R s (Send d k)
        ≡ (Length (length (log_at s k) + 1), put_device (append_to s k (request d (device_at s d))) d (sent_to (device_at s d) k))
    unfolding step
    send-runs l o f room =
        ap (to_answer Length)
        (guarded-clear (send_checks R s d k) s _
        (exists, (ap not p.joined, (lt-leb R.size k kn, (ap not o, (f, (ap is_down up, tt))))))
        ∙ ap (arrives s d k)
        (⊎_elim (λ t. absurd (false≢true (sym room ∙ t.0))) (λ t. t.1) (appended-cases s.books k (request d (device_at s d)) l))
        ∙ guarded-clear (reply_checks s d k) _ _ (ap loses_replies up, tt))

-- what a read that decides nothing leaves: the device's record is v'
pub record Reads (R : Rule) (s : State) (d k : ℕ) : Type 0 where
  pub v' : Device
  pub is : device_at (step R s (Read d k)).1 d ≡ v'
  pub books : (j : ℕ) → book_at (step R s (Read d k)).1 j ≡ book_at s j
  pub calm : Calm (Read d k) (step R s (Read d k)).0
  pub said : (n : ℕ) × (o : Outcome) × ((step R s (Read d k)).0 ≡ Taken n o)
  pub attempt : v'.attempt ≡ (device_at s d).attempt
  pub known : v'.known ≡ (device_at s d).known
  pub joined : v'.joined ≡ (device_at s d).joined
  pub links : v'.links ≡ (device_at s d).links
  -- but for the sent marks, the slot that was read is brought up to date, and the others are as they were
  pub here : with_sent (slot_at v' k) false ≡ with_sent (slot_after d (device_at s d) k (log_at s k)) false
  pub there : (j : ℕ) → j ≢ k → with_sent (slot_at v' j) false ≡ with_sent (slot_at (device_at s d) j) false
  pub phase : (v'.phase ≡ (device_at s d).phase)
      ⊎ ((is_preparing (device_at s d).phase ≡ true) × (v'.phase ≡ Accepting) × ((j : ℕ) → (slot_at v' j).sent ≡ false))
  pub sent : v'.phase ≡ (device_at s d).phase → (j : ℕ) → (slot_at (device_at s d) j).sent ≡ false → (slot_at v' j).sent ≡ false
  -- too few have its mark, or, where none preempts it, its promise
  pub unowned : is_accepting (device_at s d).phase ≡ true → R.is_quorum (own_marks v'.slots) ≡ false
  pub unpromised : ((j : ℕ) → (slot_at v' j).view.promised ≤ own_ballot d (device_at s d)) → is_preparing v'.phase ≡ true
      → R.is_quorum (promising (own_ballot d (device_at s d)) v'.slots) ≡ false

second-false : (a b : Bool) → (a && b) ≡ false → a ≡ true → b ≡ false
second-false true b e f = e
second-false false b e f = absurd (false≢true f)

module _ (R : Rule) (lawful : Lawful R) (s : State) (d k : ℕ) (i : Inv R Any s) (p : Present s d) (kn : k < R.size) where
  inside : k < length (device_at s d).slots
  inside = omega (arith, (i.devices d p.low).wide, lawful.few, kn)

  became : (r : Answer × State) (u : State) (v : Device) (a : Answer) → u.devices ≡ s.devices → r ≡ (a, put_device u d v) → device_at r.1 d ≡ v
  became r u v a e q =
      ap (λ (z : Answer × State). device_at z.1 d) q
      ∙ get_or-set_same u.devices d v (new_device false) (omega (arith, ap length e, i.sixteen, p.low))

  module _ (up : link_at (device_at s d) k ≡ Up) where
    abbrev v₁ : Device
    v₁ = caught R s d p k kn up

    same : slot_at v₁ k ≡ slot_after d (device_at s d) k (log_at s k)
    same = get_or-set_same (device_at s d).slots k _ fresh inside

    other : (j : ℕ) → j ≢ k → slot_at v₁ j ≡ slot_at (device_at s d) j
    other j ne = get_or-set_other (device_at s d).slots k j _ fresh ne

    stays : (n : ℕ) (o : Outcome) → (o ≡ Decided → ⊥) → (is_accepting (device_at s d).phase ≡ true → R.is_quorum (own_marks v₁.slots) ≡ false)
        → (((j : ℕ) → (slot_at v₁ j).view.promised ≤ own_ballot d (device_at s d)) → is_preparing (device_at s d).phase ≡ true
        → R.is_quorum (promising (own_ballot d (device_at s d)) v₁.slots) ≡ false)
        → step R s (Read d k) ≡ (Taken n o, put_device s d v₁) → Reads R s d k
    stays n o ne un few q =
        record {
          v' = v₁;
          is = became _ s v₁ _ refl q;
          books = λ j. ap (λ (z : Answer × State). book_at z.1 j) q;
          calm = subst (λ (z : Answer × State). Calm (Read d k) z.0) (sym q) (calm_read d k n o ne);
          said = (n, o, ap (λ (z : Answer × State). z.0) q);
          attempt = refl;
          known = refl;
          joined = refl;
          links = refl;
          here = ap (λ x. with_sent x false) same;
          there = λ j ne'. ap (λ x. with_sent x false) (other j ne');
          phase = inl refl;
          sent = λ _ j h. ⊎_elim
              (λ e. subst (λ u. (slot_at v₁ u).sent ≡ false) (sym e)
              (ap (λ (x : Slot). x.sent) same ∙ subst (λ u. (slot_at (device_at s d) u).sent ≡ false) e h))
              (λ ne'. ap (λ (x : Slot). x.sent) (other j ne') ∙ h)
              (cases_eq j k);
          unowned = un;
          unpromised = few;
        }

    goes : (n : ℕ) (o : Outcome) (x : Value) → (o ≡ Decided → ⊥) → is_preparing (device_at s d).phase ≡ true
        → step R s (Read d k) ≡ (Taken n o, put_device s d (carrying v₁ x)) → Reads R s d k
    goes n o x ne pr q =
        record {
          v' = carrying v₁ x;
          is = became _ s (carrying v₁ x) _ refl q;
          books = λ j. ap (λ (z : Answer × State). book_at z.1 j) q;
          calm = subst (λ (z : Answer × State). Calm (Read d k) z.0) (sym q) (calm_read d k n o ne);
          said = (n, o, ap (λ (z : Answer × State). z.0) q);
          attempt = refl;
          known = refl;
          joined = refl;
          links = refl;
          here = ap (λ y. with_sent y false) (unsent k) ∙ ap (λ y. with_sent y false) same;
          there = λ j ne'. ap (λ y. with_sent y false) (unsent j) ∙ ap (λ y. with_sent y false) (other j ne');
          phase = inr (pr, refl, λ j. ap (λ (z : Slot). z.sent) (unsent j));
          sent = λ _ j _. ap (λ (z : Slot). z.sent) (unsent j);
          unowned = λ a. absurd (not-both (device_at s d).phase pr a);
          unpromised = λ _ f. absurd (false≢true f);
        }
      where
        unsent : (j : ℕ) → slot_at (carrying v₁ x) j ≡ with_sent (slot_at v₁ j) false
        unsent j = get_or-mapped (λ y. with_sent y false) v₁.slots fresh j refl

    zero_one : ◌≡◌ {A = ℕ} 0 1 → ⊥
    zero_one e = omega arith

    -- while the device is accepting, a read that decides nothing found too few own marks
    few-own : decision R v₁ ≡ None → is_accepting (device_at s d).phase ≡ true → R.is_quorum (own_marks v₁.slots) ≡ false
    few-own e a = undecided-own R v₁ e ((i.devices d p.low).not_last (accepting-open (device_at s d).phase a))

    pub reads : Deciding d (Read d k) (step R s (Read d k)).0 ⊎ Reads R s d k
    reads = by _ _ (conclusion R d v₁) (read-runs R s d p k kn up)
      where
        by : (o : Outcome) (v : Device) → Conclusion R d v₁ o v
            → step R s (Read d k) ≡ (Taken (length (log_at s k) - (slot_at (device_at s d) k).place) o, put_device s d v)
            → Deciding d (Read d k) (step R s (Read d k)).0 ⊎ Reads R s d k
        by o v (decides x e) q = inl (k, _, refl, ap (λ (z : Answer × State). z.0) q)
        by o v (preempts e b) q =
            inr (stays _ _ (λ z. zero_one (cc)) (few-own e) (λ h _. absurd (false≢true (sym (none_above _ v₁.slots (λ j _. h j)) ∙ b))) q)
        by o v (prepares e a b) q = inr (goes _ _ _ (λ z. zero_one (cc)) a q)
        by o v (waits e a) q = inr (stays _ _ (λ z. zero_one (cc)) (few-own e) (λ _ f. second-false _ _ a f) q)

-- what a send leaves
pub record Sends (R : Rule) (s : State) (d k : ℕ) : Type 0 where
  pub is : device_at (step R s (Send d k)).1 d ≡ sent_to (device_at s d) k
  pub here : book_at (step R s (Send d k)).1 k ≡ grown (book_at s k) (request d (device_at s d))
  pub there : (j : ℕ) → j ≢ k → book_at (step R s (Send d k)).1 j ≡ book_at s j
  pub calm : Calm (Send d k) (step R s (Send d k)).0
  pub slot-here : slot_at (sent_to (device_at s d) k) k ≡ with_sent (slot_at (device_at s d) k) true
  pub slot-there : (j : ℕ) → j ≢ k → slot_at (sent_to (device_at s d) k) j ≡ slot_at (device_at s d) j

pub sends-to : (R : Rule) (lawful : Lawful R) (s : State) (d k : ℕ) → Inv R Any s → Present s d → k < R.size → link_at (device_at s d) k ≡ Up
    → is_open (device_at s d).phase ≡ true → (slot_at (device_at s d) k).sent ≡ false → length (log_at s k) < (book_at s k).maximum → Sends R s d k
sends-to R lawful s d k i p kn up o f room =
    let l : k < length s.books = omega (arith, i.accounts, kn) in
    let q = send-runs R s d p k kn up l o f (ne_eqb _ _ (λ e. omega (arith, room, e))) in
    record {
      is = became R lawful s d k i p kn _ _ _ _ refl q;
      here = ap (λ (z : Answer × State). book_at z.1 k) q ∙ book-here s k _ l;
      there = λ j ne. ap (λ (z : Answer × State). book_at z.1 j) q ∙ book-there s k _ l j ne;
      calm = calm-minor (Send d k) _ refl;
      slot-here = get_or-set_same (device_at s d).slots k _ fresh (inside R lawful s d k i p kn);
      slot-there = λ j ne. get_or-set_other (device_at s d).slots k j _ fresh ne;
    }
