-- The invariant of a group, and that every call keeps it.
use Rattle.std.proofs.Common.{◌≡◌, ℕ, ◌<◌, Bool, true, false, cond, ◌⊎◌, [], ◌∷◌, ◌++◌, length, get_or, sym, refl, ap, ◌∙◌, subst, inl, inr, ⊎_elim, arith, length-set}
use Rattle.std.proofs.lemmas.List.{append-nil}
use Rattle.std.proofs.lemmas.Bool.{cases_eq, false≢true}
use Rattle.record.specs.Entry.{Entry, ballot_of}
use Rattle.record.specs.declared.kind.Kind.TheVariants.{Prepare, Accept}
use Rattle.record.specs.declared.value.Value.{Value}
use Rattle.journal.specs.Log.{is_accept}
use Rattle.quorum.specs.Rules.{Rule, Lawful}
use Rattle.account.specs.Books.{grown}
use Rattle.protocol.specs.Device.{Device, is_accepting, next_version, own_ballot, slot_at, new_device, request}
use Rattle.protocol.specs.Reading.{caught_up}
use Rattle.protocol.specs.State.{State, book_at, log_at, device_at, put_device}
use Rattle.protocol.specs.Runs.{New}
use Rattle.protocol.specs.declared.answer.Answer.{Answer}
use Rattle.protocol.specs.declared.answer.Answer.TheVariants.{Attempt}
use Rattle.protocol.specs.declared.call.Call.{Call}
use Rattle.protocol.specs.declared.call.Call.TheVariants.{Propose}
use Rattle.protocol.specs.declared.outcome.Outcome.{Outcome}
use Rattle.protocol.proofs.Accounts.{append_to, log-appended}
use Rattle.protocol.proofs.Concluding.{ok-carrying}
use Rattle.protocol.proofs.Devices.{DeviceOk, device-grows, ok-new, ok-join, ok-holding, ok-link, ok-slot, ok-caught-up, ok-opened}
use Rattle.protocol.proofs.Effects.{Conclusion, decides, preempts, prepares, waits, Change, joins, links, proposes, retries, reads, restarts, Sender, Effect, refused, tells, changes, loses, sends}
use Rattle.protocol.proofs.Lists.{get_or-same, placed}
use Rattle.protocol.proofs.Logs.{IsAccept, Mem, mem-cases, mem-one}
use Rattle.protocol.proofs.Slots.{slot_grows, slot-sent}
use Rattle.protocol.proofs.Votes.{Logs, Wrote, Promised, Safe, Grows, grows_same, LogsOk, promised-quorum-grows, safe-grows}

-- P b x says that a proposal with base b and value x was opened
pub record Inv (R : Rule) (P : ℕ → Value → Type 0) (s : State) : Type 0 where
  pub accounts : length s.books ≡ R.size
  pub sixteen : length s.devices ≡ 16
  pub logs : LogsOk R P (log_at s)
  pub devices : (d : ℕ) → d < 16 → DeviceOk R P (log_at s) d (device_at s d)

-- more proposals were opened
pub inv-more : (R : Rule) (P P' : ℕ → Value → Type 0) (s : State) → ((b : ℕ) (x : Value) → P b x → P' b x) → Inv R P s → Inv R P' s
inv-more R P P' s more i =
    record {
      accounts = i.accounts;
      sixteen = i.sixteen;
      logs =
          record {
            writers = i.logs.writers;
            positive = i.logs.positive;
            promised = i.logs.promised;
            unique = i.logs.unique;
            safe = i.logs.safe;
            proposed = λ w b x q. let p = i.logs.proposed w b x q in (p.0, p.1, more p.0 x p.2);
          };
      devices = λ d l.
          device-grows R P P' (log_at s) (log_at s) d (device_at s d) more (grows_same (log_at s) (log_at s) (λ _. refl)) (λ w a x q. q) (i.devices d l);
    }

-- a new group
pub new-device : (R : Rule) (s : State) → New R s → (d : ℕ) → device_at s d ≡ new_device false
new-device R s new d = ap (λ ds. get_or ds d (new_device false)) new.devices ∙ get_or-same 16 d (new_device false)

pub inv_new : (R : Rule) (P : ℕ → Value → Type 0) (s : State) → New R s → Inv R P s
unfolding Mem
inv_new R P s new =
    record {
      accounts = new.accounts;
      sixteen = ap length new.devices;
      logs =
          record {
            writers = λ k e m. absurd (none k e m);
            positive = λ w b x q. absurd (unwritten w b x q);
            promised = λ w b x q. absurd (unwritten w b x q);
            unique = λ w b x y q. absurd (unwritten w b x q);
            safe = λ w b x q. absurd (unwritten w b x q);
            proposed = λ w b x q. absurd (unwritten w b x q);
          };
      devices = λ d l.
          subst (DeviceOk R P (log_at s) d) (sym (new-device R s new d))
          (ok-new R P (log_at s) d false (λ w a x q. absurd (unwritten w (ballot_of a d) x q)));
    }
  where
    none : (k : ℕ) (e : Entry) → Mem e (log_at s k) → ⊥
    none k e m = subst (Mem e) (new.empty k) m

    unwritten : (w b : ℕ) (x : Value) → Wrote (log_at s) w b x → ⊥
    unwritten w b x q = none q.0 q.1 q.2

module _ (R : Rule) (lawful : Lawful R) (P : ℕ → Value → Type 0) where
  -- one device's record is another
  inv-put : (s : State) (d : ℕ) (v : Device) → d < 16 → Inv R P s → DeviceOk R P (log_at s) d v → Inv R P (put_device s d v)
  inv-put s d v l i h =
      record {
        accounts = i.accounts;
        sixteen = length-set s.devices d v ∙ i.sixteen;
        logs = i.logs;
        devices =
            placed (new_device false) (λ j u. j < 16 → DeviceOk R P (log_at s) j u) s.devices d v (omega (arith, i.sixteen, l)) (λ _. h) i.devices;
      }

  -- what a device sends is an ACCEPT only while it is accepting, and then under its ballot with what it carries
  record Asks (d : ℕ) (v : Device) (w b : ℕ) (x : Value) : Type 0 where
    pub accepting : is_accepting v.phase ≡ true
    pub version : w ≡ next_version v
    pub ballot : b ≡ own_ballot d v
    pub value : x ≡ v.carried

  request-asks : (d : ℕ) (v : Device) (w b : ℕ) (x : Value) → IsAccept w b x (request d v) → Asks d v w b x
  request-asks d v w b x a =
      let t = asked (is_accepting v.phase) a.kind in
      record { accepting = t; version = sym a.version; ballot = sym a.ballot; value = carried (is_accepting v.phase) _ _ t a.value }
    where
      asked : (c : Bool) → is_accept (cond c Accept Prepare) ≡ true → c ≡ true
      asked true e = refl
      asked false e = e

      carried : (c : Bool) (y z : Value) → c ≡ true → cond c y z ≡ x → x ≡ y
      carried true y z e f = sym f
      carried false y z e f = absurd (false≢true e)

  module _ (s : State) (i : Inv R P s) (d k : ℕ) (p : Sender R s d k) where
    abbrev v : Device
    v = device_at s d

    abbrev s' : State
    s' = append_to s k (request d v)

    ok : DeviceOk R P (log_at s) d v
    ok = i.devices d p.low

    appended : (j : ℕ) → (log_at s' j ≡ log_at s j ++ request d v ∷ []) ⊎ (log_at s' j ≡ log_at s j)
    appended = log-appended s k (request d v) (omega (arith, i.accounts, p.account))

    append-grows : Grows (log_at s) (log_at s')
    append-grows j = ⊎_elim (λ e. (request d v ∷ [], e)) (λ e. ([], e ∙ sym (append-nil (log_at s j)))) (appended j)

    -- a record that stands there now stood there before, or is the one that was sent
    was : (j : ℕ) (e : Entry) → Mem e (log_at s' j) → Mem e (log_at s j) ⊎ (e ≡ request d v)
    was j e m =
        ⊎_elim
        (λ q. ⊎_elim inl (λ h. inr (mem-one e (request d v) h)) (mem-cases e (log_at s j) (request d v ∷ []) (subst (Mem e) q m)))
        (λ q. inl (subst (Mem e) q m))
        (appended j)

    new : (w b : ℕ) (x : Value) → Wrote (log_at s') w b x → Wrote (log_at s) w b x ⊎ Asks d v w b x
    new w b x q =
        ⊎_elim (λ h. inl (q.0, q.1, h, q.3)) (λ e. inr (request-asks d v w b x (subst (IsAccept w b x) e q.3))) (was q.0 q.1 q.2)

    -- an earlier ACCEPT of the ballot that is sent has the value that is sent
    same-value : (w b : ℕ) (x y : Value) → Asks d v w b x → Wrote (log_at s) w b y → y ≡ x
    same-value w b x y a q = (ok.mine w y (subst (λ c. Wrote (log_at s) w c y) a.ballot q) p.isopen).2 ∙ sym a.value

    -- what holds of the version, ballot and value that the device sends holds of the record
    asked-for : (Q : ℕ → ℕ → Value → Type 0) (w b : ℕ) (x : Value) → Asks d v w b x → Q (next_version v) (own_ballot d v) v.carried → Q w b x
    asked-for Q w b x a q =
        subst (λ w. Q w b x) (sym a.version)
        (subst (λ b. Q (next_version v) b x) (sym a.ballot) (subst (Q (next_version v) (own_ballot d v)) (sym a.value) q))

    logs-append : LogsOk R P (log_at s')
    logs-append =
        record {
          writers = λ j e m. ⊎_elim (i.logs.writers j e) (λ q. subst (λ (f : Entry). f.device < 16) (sym q) p.low) (was j e m);
          positive = λ w b x q. ⊎_elim (i.logs.positive w b x) (λ a. omega (arith, a.ballot, ok.started p.isopen)) (new w b x q);
          promised = λ w b x q.
              promised-quorum-grows (log_at s) (log_at s') append-grows R w b
              (⊎_elim (i.logs.promised w b x) (λ a. asked-for (λ w b _. Promised R (log_at s) w b) w b x a (ok.promised a.accepting)) (new w b x q));
          unique = λ w b x y q r.
              ⊎_elim
              (λ h. ⊎_elim (λ h'. i.logs.unique w b x y h h') (λ a'. same-value w b y x a' h) (new w b y r))
              (λ a. ⊎_elim (λ h'. sym (same-value w b x y a h')) (λ a'. a.value ∙ sym a'.value) (new w b y r))
              (new w b x q);
          safe = λ w b x q.
              safe-grows (log_at s) (log_at s') append-grows R w b x
              (⊎_elim (i.logs.safe w b x) (λ a. asked-for (Safe R (log_at s)) w b x a (ok.safe a.accepting)) (new w b x q));
          proposed = λ w b x q.
              ⊎_elim (i.logs.proposed w b x)
              (λ a. (v.known, a.version, subst (P v.known) (sym a.value) (ok.carried a.accepting)))
              (new w b x q);
        }

    sender-append : DeviceOk R P (log_at s') d v
    sender-append =
        record {
          wide = ok.wide;
          slots = λ j. slot_grows _ _ _ (log_at s j) (log_at s' j) (append-grows j).0 (slot_at v j) (append-grows j).1 (ok.slots j);
          used = λ w a x q. ⊎_elim (ok.used w a x) (λ b. omega (arith, b.ballot)) (new w (ballot_of a d) x q);
          mine = λ w x q o. ⊎_elim (λ g. ok.mine w x g o) (λ b. (b.accepting, b.version, b.value)) (new w (own_ballot d v) x q);
          safe = λ e. safe-grows (log_at s) (log_at s') append-grows R _ _ _ (ok.safe e);
          promised = λ e. promised-quorum-grows (log_at s) (log_at s') append-grows R _ _ (ok.promised e);
          carried = ok.carried;
          proposed = ok.proposed;
          started = ok.started;
          not_last = ok.not_last;
          outside = ok.outside;
        }

    inv-append : Inv R P s'
    inv-append =
        record {
          accounts = length-set s.books k (grown (book_at s k) (request d v)) ∙ i.accounts;
          sixteen = i.sixteen;
          logs = logs-append;
          devices = λ j l.
              ⊎_elim
              (λ e. subst (λ c. DeviceOk R P (log_at s') c (device_at s c)) (sym e) sender-append)
              (λ ne.
              device-grows R P P (log_at s) (log_at s') j (device_at s j) (λ _ _ h. h) append-grows
              (λ w a x q. ⊎_elim (λ h. h) (λ g. let z : ⊥ = omega (arith, g.ballot, l, p.low, ne) in absurd z) (new w (ballot_of a j) x q))
              (i.devices j l))
              (cases_eq j d);
        }

  -- device d, once it has read account k
  pub ok-caught : (s : State) (d k : ℕ) → Inv R P s → d < 16 → k < R.size
      → DeviceOk R P (log_at s) d (caught_up d (device_at s d) k (log_at s k))
  ok-caught s d k i l kn = ok-caught-up R lawful P (log_at s) d (device_at s d) (i.devices d l) k kn

  ok-concluded : (L : Logs) (d : ℕ) (v : Device) (o : Outcome) (v' : Device) → LogsOk R P L → DeviceOk R P L d v → v.joined ≡ true
      → Conclusion R d v o v' → DeviceOk R P L d v'
  ok-concluded L d v o v' logs h j (decides x e) = ok-holding R lawful P L d v h _ x j
  ok-concluded L d v o v' logs h j (preempts e a) = h
  ok-concluded L d v o v' logs h j (prepares e p q) = ok-carrying R lawful P L logs d v h q p
  ok-concluded L d v o v' logs h j (waits e n) = h

  -- each change of a device's record keeps what it says, if the proposals that it opens count as opened
  ok-change : (s : State) (d : ℕ) (c : Call) (a : Answer) (v : Device) → d < 16 → Inv R P s
      → ((e b n : ℕ) (x : Value) → c ≡ Propose e b x → a ≡ Attempt n → P b x)
      → Change R s d c a v → DeviceOk R P (log_at s) d v
  ok-change s d c a v l i new (joins j) = ok-join R lawful P (log_at s) d _ (i.devices d l) j
  ok-change s d c a v l i new (links k x j) = ok-link R lawful P (log_at s) d _ (i.devices d l) k _
  ok-change s d c a v l i new (proposes b x j f e last m) =
      ok-opened R lawful P (log_at s) d _ (i.devices d l) x j last (subst (λ n. P n x) e (new d b _ x refl refl))
  ok-change s d c a v l i new (retries j o m) =
      ok-opened R lawful P (log_at s) d _ (i.devices d l) _ j ((i.devices d l).not_last o) ((i.devices d l).proposed o)
  ok-change s d c a v l i new (reads {o = o} k n j kn q) = ok-concluded (log_at s) d _ o v i.logs (ok-caught s d k i l kn) j q
  ok-change s d c a v l i new (restarts j) = ok-holding R lawful P (log_at s) d _ (i.devices d l) _ _ j

  -- every call keeps the invariant
  pub inv-step : (s : State) (c : Call) (a : Answer) (s' : State) → Inv R P s
      → ((e b n : ℕ) (x : Value) → c ≡ Propose e b x → a ≡ Attempt n → P b x)
      → Effect R s c a s' → Inv R P s'
  inv-step s c a s' i new (refused e) = i
  inv-step s c a s' i new (tells d) = i
  inv-step s c a s' i new (changes {v = v} d l q) = inv-put s d v l i (ok-change s d c a v l i new q)
  inv-step s c a s' i new (loses d k e p) = inv-append s i d k p
  inv-step s c a s' i new (sends d k n p) =
      let i' = inv-append s i d k p in
      inv-put (append_to s k (request d (device_at s d))) d _ p.low i'
      (ok-slot R lawful P _ d (device_at s d) (i'.devices d p.low) k _ _ p.account (slot-sent _ _ _ _ _ ((i'.devices d p.low).slots k)))

  -- logs only grow
  pub effect-grows : (s : State) (c : Call) (a : Answer) (s' : State) → Inv R P s → Effect R s c a s' → Grows (log_at s) (log_at s')
  effect-grows s c a s' i (refused e) = grows_same _ _ (λ _. refl)
  effect-grows s c a s' i (tells d) = grows_same _ _ (λ _. refl)
  effect-grows s c a s' i (changes {v = v} d l q) = grows_same _ _ (λ _. refl)
  effect-grows s c a s' i (loses d k e p) = append-grows s i d k p
  effect-grows s c a s' i (sends d k n p) = append-grows s i d k p
