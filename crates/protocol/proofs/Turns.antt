-- One call, as far as proposals and versions go: what it opens and closes, and what each device then holds.
use Rattle.std.proofs.Common.{◌≡◌, ℕ, ◌+◌, ◌<◌, Bool, true, false, ◌≢◌, length, get_or, Some, sym, refl, ap, ◌∙◌, subst, ⊎_elim, arith, get_or-set_other, get_or-set_same}
use Rattle.std.proofs.lemmas.Bool.{cases_eq, false≢true}
use Rattle.record.specs.declared.refusal.Refusal.{Refusal}
use Rattle.record.specs.declared.value.Value.{Value}
use Rattle.quorum.specs.Rules.{Rule}
use Rattle.protocol.specs.Device.{Device, is_open, new_device, opened, restarted, decided}
use Rattle.protocol.specs.Reading.{caught_up}
use Rattle.protocol.specs.Deciding.{decision}
use Rattle.protocol.specs.State.{State, log_at, device_at, put_device}
use Rattle.protocol.specs.declared.answer.Answer.{Answer}
use Rattle.protocol.specs.declared.answer.Answer.TheVariants.{Refused, Done, Attempt, Taken}
use Rattle.protocol.specs.declared.call.Call.{Call}
use Rattle.protocol.specs.declared.call.Call.TheVariants.{Join, SetLink, Propose, Send, Read, Again, Restart, Known}
use Rattle.protocol.specs.declared.outcome.Outcome.{Outcome}
use Rattle.protocol.specs.declared.outcome.Outcome.TheVariants.{Decided}
use Rattle.protocol.proofs.Effects.{Conclusion, decides, preempts, prepares, waits, Change, joins, links, proposes, retries, reads, restarts, Effect, refused, tells, changes, loses, sends}
use Rattle.protocol.proofs.Invariant.{Inv}
use Rattle.protocol.proofs.Phases.{preparing-open}

-- a call with its answer that opens, decides or restarts nothing
pub record Calm (c : Call) (a : Answer) : Type 0 where
  pub unopened : (d b n : ℕ) (x : Value) → c ≡ Propose d b x → a ≡ Attempt n → ⊥
  pub undecided : (d k n : ℕ) → c ≡ Read d k → a ≡ Taken n Decided → ⊥
  pub unrestarted : (d : ℕ) → c ≡ Restart d → a ≡ Done → ⊥

-- the device that calls
abbrev pub caller : Call → ℕ
caller (Join d) = d
caller (SetLink d k l) = d
caller (Propose d b x) = d
caller (Send d k) = d
caller (Read d k) = d
caller (Again d) = d
caller (Restart d) = d
caller (Known d) = d

-- one device's record is another, and the others are as they were
pub record Becomes (s s' : State) (d : ℕ) (v : Device) : Type 0 where
  pub here : device_at s' d ≡ v
  pub there : (j : ℕ) → j ≢ d → device_at s' j ≡ device_at s j

-- what a call leaves of a device, as far as its proposal and its version go
pub record Kept (v v' : Device) : Type 0 where
  pub isopen : is_open v'.phase ≡ is_open v.phase
  pub known : v'.known ≡ v.known
  pub value : (u : ℕ) → v.known ≡ u + 1 → v'.value ≡ v.value

pub data Turn (R : Rule) (s : State) (c : Call) (a : Answer) (s' : State) : Type 0 where
  calm : Calm c a → ((j : ℕ) → Kept (device_at s j) (device_at s' j)) → Turn R s c a s'
  opening : (d b n : ℕ) (x : Value) → c ≡ Propose d b x → a ≡ Attempt n → is_open (device_at s d).phase ≡ false → b ≡ (device_at s d).known
      → Becomes s s' d (opened (device_at s d) x) → Turn R s c a s'
  deciding : (d k n : ℕ) (x : Value) → c ≡ Read d k → a ≡ Taken n Decided → d < 16 → k < R.size
      → decision R (caught_up d (device_at s d) k (log_at s k)) ≡ Some x
      → Becomes s s' d (decided (caught_up d (device_at s d) k (log_at s k)) x) → Turn R s c a s'
  restarting : (d : ℕ) → c ≡ Restart d → a ≡ Done → Becomes s s' d (restarted (device_at s d)) → Turn R s c a s'

kept_same : (v : Device) → Kept v v
kept_same v = record { isopen = refl; known = refl; value = λ _ _. refl }

zero_one : ◌≡◌ {A = ℕ} 0 1 → ⊥
zero_one e = omega arith

-- refusals are calm, and so are most calls
calm-refused : (c : Call) (e : Refusal) → Calm c (Refused e)
calm-refused c e =
    record { unopened = λ d b n x p q. zero_one (cc); undecided = λ d k n p q. zero_one (cc); unrestarted = λ d p q. zero_one (cc) }

abbrev is_minor : Call → Bool
is_minor (Join d) = true
is_minor (SetLink d k l) = true
is_minor (Propose d b x) = false
is_minor (Send d k) = true
is_minor (Read d k) = false
is_minor (Again d) = true
is_minor (Restart d) = false
is_minor (Known d) = true

pub calm-minor : (c : Call) (a : Answer) → is_minor c ≡ true → Calm c a
calm-minor c a e =
    record {
      unopened = λ d b n x p q. false≢true (sym (ap is_minor p) ∙ e);
      undecided = λ d k n p q. false≢true (sym (ap is_minor p) ∙ e);
      unrestarted = λ d p q. false≢true (sym (ap is_minor p) ∙ e);
    }

pub calm_read : (d k n : ℕ) (o : Outcome) → (o ≡ Decided → ⊥) → Calm (Read d k) (Taken n o)
calm_read d k n o ne =
    record { unopened = λ d b n x p q. zero_one (cc); undecided = λ d k n p q. ne (cc); unrestarted = λ d p q. zero_one (cc) }

module _ (R : Rule) (P : ℕ → Value → Type 0) (s : State) (i : Inv R P s) where
  becomes : (t : State) (d : ℕ) (v : Device) → t.devices ≡ s.devices → d < 16 → Becomes s (put_device t d v) d v
  becomes t d v e l =
      record {
        here = get_or-set_same t.devices d v (new_device false) (omega (arith, i.sixteen, ap length e, l));
        there = λ j ne. get_or-set_other t.devices d j v (new_device false) ne ∙ ap (λ ds. get_or ds j (new_device false)) e;
      }

  -- the call keeps the proposal and the version of the one device that it changes
  mild : (c : Call) (a : Answer) (s' : State) (d : ℕ) (v : Device) → Calm c a → Becomes s s' d v → Kept (device_at s d) v → Turn R s c a s'
  mild c a s' d v z b k =
      calm z
      (λ j. ⊎_elim
      (λ e. subst (λ u. Kept (device_at s u) (device_at s' u)) (sym e) (subst (Kept (device_at s d)) (sym b.here) k))
      (λ ne. subst (Kept (device_at s j)) (sym (b.there j ne)) (kept_same (device_at s j)))
      (cases_eq j d))

  abbrev caught : ℕ → ℕ → Device
  caught d k = caught_up d (device_at s d) k (log_at s k)

  conclude : (d k n : ℕ) (o : Outcome) (v : Device) → d < 16 → k < R.size → Conclusion R d (caught d k) o v → Turn R s (Read d k) (Taken n o) (put_device s d v)
  conclude d k n o v l kn (decides x e) = deciding d k n x refl refl l kn e (becomes s d _ refl l)
  conclude d k n o v l kn (preempts e q) =
      mild _ _ _ d _ (calm_read d k n _ (λ z. zero_one (cc))) (becomes s d _ refl l) (record { isopen = refl; known = refl; value = λ _ _. refl })
  conclude d k n o v l kn (prepares e p q) =
      mild _ _ _ d _ (calm_read d k n _ (λ z. zero_one (cc))) (becomes s d _ refl l)
      (record { isopen = sym (preparing-open (device_at s d).phase p); known = refl; value = λ _ _. refl })
  conclude d k n o v l kn (waits e q) =
      mild _ _ _ d _ (calm_read d k n _ (λ z. zero_one (cc))) (becomes s d _ refl l) (record { isopen = refl; known = refl; value = λ _ _. refl })

  change : (d : ℕ) (c : Call) (a : Answer) (v : Device) → d < 16 → Change R s d c a v → Turn R s c a (put_device s d v)
  change d c a v l (joins j) =
      let o = (i.devices d l).outside j in
      mild _ _ _ d _ (calm-minor (Join d) Done refl) (becomes s d _ refl l)
      (record { isopen = sym o.2; known = sym o.1; value = λ u e. let z : ⊥ = omega (arith, e, o.1) in absurd z })
  change d c a v l (links k x j) =
      mild _ _ _ d _ (calm-minor (SetLink d k x) Done refl) (becomes s d _ refl l) (record { isopen = refl; known = refl; value = λ _ _. refl })
  change d c a v l (proposes b x j f e last m) = opening d b _ x refl refl f e (becomes s d _ refl l)
  change d c a v l (retries j o m) =
      mild _ _ _ d _ (calm-minor (Again d) _ refl) (becomes s d _ refl l) (record { isopen = sym o; known = refl; value = λ _ _. refl })
  change d c a v l (reads {o = o} k n j kn q) = conclude d k n o v l kn q
  change d c a v l (restarts j) = restarting d refl refl (becomes s d _ refl l)

  pub turn : (c : Call) (a : Answer) (s' : State) → Effect R s c a s' → Turn R s c a s'
  turn c a s' (refused e) = calm (calm-refused c e) (λ j. kept_same (device_at s j))
  turn c a s' (tells d) = calm (calm-minor (Known d) _ refl) (λ j. kept_same (device_at s j))
  turn c a s' (changes {v = v} d l q) = change d c a v l q
  turn c a s' (loses d k e p) = calm (calm-refused _ e) (λ j. kept_same (device_at s j))
  turn c a s' (sends d k n p) =
      mild _ _ _ d _ (calm-minor (Send d k) _ refl) (becomes _ d _ refl p.low) (record { isopen = refl; known = refl; value = λ _ _. refl })
