-- Over a run from a new group: the invariant holds after every call, and a device has an open proposal exactly if its phase says so,
-- one at most, built on the version that it holds.
use Rattle.std.proofs.Common.{◌≡◌, ℕ, zero, suc, ◌<◌, true, false, List, sym, refl, ap, ◌∙◌, subst, inl, inr, ⊎_elim, arith}
use Rattle.std.proofs.lemmas.Bool.{cases_eq, false≢true}
use Rattle.record.specs.declared.value.Value.{Value}
use Rattle.quorum.specs.Rules.{Rule, Lawful}
use Rattle.protocol.specs.Device.{Device, is_open}
use Rattle.protocol.specs.State.{State, log_at, device_at}
use Rattle.protocol.specs.Runs.{New, step, call_at, after, said}
use Rattle.protocol.specs.Chain.{Opens, Decides, Closes}
use Rattle.protocol.specs.declared.call.Call.{Call}
use Rattle.protocol.proofs.Effects.{Effect, effect}
use Rattle.protocol.proofs.Invariant.{Inv, inv-more, new-device, inv_new, inv-step, effect-grows}
use Rattle.protocol.proofs.Turns.{Calm, caller, Becomes, Turn, calm, opening, deciding, restarting, turn}
use Rattle.protocol.proofs.Votes.{Grows}

module _ (R : Rule) (s : State) (cs : List Call) where
  pub after_next : (t : ℕ) → after R s cs (suc t) ≡ (step R (after R s cs t) (call_at cs t)).1
  unfolding after
  after_next t = refl

  pub said-is : (t : ℕ) → said R s cs t ≡ (step R (after R s cs t) (call_at cs t)).0
  unfolding said
  said-is t = refl

  -- a proposal with base b and value x was opened before call t
  abbrev pub Proposed : ℕ → ℕ → Value → Type 0
  Proposed t b x = (i : ℕ) × (i < t) × (d : ℕ) × (o : Opens R s cs d i) × (o.base ≡ b) × (o.value ≡ x)

  -- nothing has closed device d's proposal of call i before call t
  abbrev pub StillOpen : ℕ → ℕ → ℕ → Type 0
  StillOpen d i t = (m : ℕ) → i < m → m < t → Closes R s cs d m → ⊥

  still-earlier : (d i t : ℕ) → StillOpen d i (suc t) → StillOpen d i t
  still-earlier d i t h m a b = h m a (omega arith)

  -- what a calm call rules out
  module _ (t : ℕ) (z : Calm (call_at cs t) (said R s cs t)) (d : ℕ) where
    pub calm-opens : Opens R s cs d t → ⊥
    calm-opens o = z.unopened d o.base o.attempt o.value o.calls o.said

    pub calm-decides : Decides R s cs d t → ⊥
    calm-decides o = z.undecided d o.account o.count o.calls o.said

    pub calm-closes : Closes R s cs d t → ⊥
    calm-closes h = ⊎_elim calm-decides (λ o. z.unrestarted d o.calls o.said) h

  -- a call is its caller's
  opens_by : (t d e : ℕ) → caller (call_at cs t) ≡ e → Opens R s cs d t → d ≡ e
  opens_by t d e q o = let p = o.calls in cc

  pub decides-by : (t d e : ℕ) → caller (call_at cs t) ≡ e → Decides R s cs d t → d ≡ e
  decides-by t d e q o = let p = o.calls in cc

  closes_by : (t d e : ℕ) → caller (call_at cs t) ≡ e → Closes R s cs d t → d ≡ e
  closes_by t d e q h = ⊎_elim (decides-by t d e q) (λ o. let p = o.calls in cc) h

  pub record Tracked (t d : ℕ) : Type 0 where
    pub closed : is_open (device_at (after R s cs t) d).phase ≡ false → (i : ℕ) → i < t → Opens R s cs d i → StillOpen d i t → ⊥
    pub opened : is_open (device_at (after R s cs t) d).phase ≡ true
        → (i : ℕ) × (i < t) × (o : Opens R s cs d i) × (o.base ≡ (device_at (after R s cs t) d).known)
        × ((i' : ℕ) → i' < t → Opens R s cs d i' → StillOpen d i' t → i' ≡ i)

  -- a call that opens and closes nothing of device d's
  track-kept : (t d : ℕ) → (Opens R s cs d t → ⊥)
      → is_open (device_at (after R s cs (suc t)) d).phase ≡ is_open (device_at (after R s cs t) d).phase
      → (device_at (after R s cs (suc t)) d).known ≡ (device_at (after R s cs t) d).known
      → Tracked t d → Tracked (suc t) d
  track-kept t d unopened e k h =
      record {
        closed = λ f i l o u. h.closed (sym e ∙ f) i (earlier i l o) o (still-earlier d i t u);
        opened = λ f.
            let z = h.opened (sym e ∙ f) in
            (z.0, omega (arith, z.1), z.2, z.3 ∙ sym k, λ i l o u. z.4 i (earlier i l o) o (still-earlier d i t u));
      }
    where
      earlier : (i : ℕ) → i < suc t → Opens R s cs d i → i < t
      earlier i l o = ⊎_elim (λ q. absurd (unopened (subst (Opens R s cs d) q o))) (λ ne. omega arith) (cases_eq i t)

  track-opened : (t d : ℕ) (o : Opens R s cs d t) → is_open (device_at (after R s cs t) d).phase ≡ false
      → is_open (device_at (after R s cs (suc t)) d).phase ≡ true → o.base ≡ (device_at (after R s cs (suc t)) d).known
      → Tracked t d → Tracked (suc t) d
  track-opened t d o f f' b h =
      record {
        closed = λ g. absurd (false≢true (sym g ∙ f'));
        opened = λ _. (
          t,
          omega arith,
          o,
          b,
          λ i l o' u. ⊎_elim (λ q. q) (λ ne. absurd (h.closed f i (omega arith) o' (still-earlier d i t u))) (cases_eq i t),
        );
      }

  track-closed : (t d : ℕ) → (Opens R s cs d t → ⊥) → Closes R s cs d t → is_open (device_at (after R s cs (suc t)) d).phase ≡ false → Tracked (suc t) d
  track-closed t d unopened e f =
      record {
        closed = λ _ i l o u. ⊎_elim (λ q. unopened (subst (Opens R s cs d) q o)) (λ ne. u t (omega arith) (omega arith) e) (cases_eq i t);
        opened = λ g. absurd (false≢true (sym f ∙ g));
      }

  -- a call of device e, which becomes v, and device d: what it does to e is said at e, and any other is as it was
  track-by : (t d e : ℕ) (v : Device) → caller (call_at cs t) ≡ e → Becomes (after R s cs t) (after R s cs (suc t)) e v
      → (Tracked t e → Tracked (suc t) e) → Tracked t d → Tracked (suc t) d
  track-by t d e v by b there h =
      ⊎_elim
      (λ same. subst (Tracked (suc t)) (sym same) (there (subst (Tracked t) same h)))
      (λ ne. track-kept t d (λ o. ne (opens_by t d e by o))
      (ap (λ (u : Device). is_open u.phase) (b.there d ne)) (ap (λ (u : Device). u.known) (b.there d ne)) h)
      (cases_eq d e)

  track-step : (t d : ℕ) → Turn R (after R s cs t) (call_at cs t) (said R s cs t) (after R s cs (suc t)) → Tracked t d → Tracked (suc t) d
  track-step t d (calm z k) h = track-kept t d (calm-opens t z d) (k d).isopen (k d).known h
  track-step t d (opening e b n x c q f kb is) h =
      track-by t d e _ (ap caller c) is
      (track-opened t e (record { base = b; value = x; attempt = n; calls = c; said = q }) f
      (ap (λ (u : Device). is_open u.phase) is.here) (kb ∙ sym (ap (λ (u : Device). u.known) is.here))) h
  track-step t d (deciding e k n x c q l kn st is) h =
      track-by t d e _ (ap caller c) is
      (λ _. track-closed t e (λ o. let i = o.calls in let z : ◌≡◌ {A = ℕ} 0 1 = cc in omega arith)
      (inl (record { account = k; count = n; calls = c; said = q })) (ap (λ (u : Device). is_open u.phase) is.here)) h
  track-step t d (restarting e c q is) h =
      track-by t d e _ (ap caller c) is
      (λ _. track-closed t e (λ o. let i = o.calls in let z : ◌≡◌ {A = ℕ} 0 1 = cc in omega arith)
      (inr (record { calls = c; said = q })) (ap (λ (u : Device). is_open u.phase) is.here)) h

  module _ (lawful : Lawful R) (new : New R s) where
    effect_of : (P : ℕ → Value → Type 0) (t : ℕ) → Inv R P (after R s cs t)
        → Effect R (after R s cs t) (call_at cs t) (said R s cs t) (after R s cs (suc t))
    unfolding after said
    effect_of P t i = effect R (after R s cs t) (omega (arith, i.accounts)) (call_at cs t)

    pub inv_at : (t : ℕ) → Inv R (Proposed t) (after R s cs t)
    unfolding after
    inv_at zero = inv_new R (Proposed zero) s new
    inv_at (suc t) =
        let i = inv_at t in
        inv-step R lawful (Proposed (suc t)) (after R s cs t) (call_at cs t) _ _
        (inv-more R (Proposed t) (Proposed (suc t)) (after R s cs t) (λ b x h. (h.0, omega (arith, h.1), h.2, h.3, h.4, h.5)) i)
        (λ d b n x e q. (t, omega arith, d, record { base = b; value = x; attempt = n; calls = e; said = q }, refl, refl))
        (effect_of (Proposed t) t i)

    pub effect-at : (t : ℕ) → Effect R (after R s cs t) (call_at cs t) (said R s cs t) (after R s cs (suc t))
    effect-at t = effect_of (Proposed t) t (inv_at t)

    pub turn_at : (t : ℕ) → Turn R (after R s cs t) (call_at cs t) (said R s cs t) (after R s cs (suc t))
    turn_at t = turn R (Proposed t) (after R s cs t) (inv_at t) (call_at cs t) _ _ (effect-at t)

    pub grows_at : (t : ℕ) → Grows (log_at (after R s cs t)) (log_at (after R s cs (suc t)))
    grows_at t = effect-grows R lawful (Proposed t) (after R s cs t) (call_at cs t) _ _ (inv_at t) (effect-at t)

    pub track-at : (d t : ℕ) → Tracked t d
    unfolding after
    track-at d zero =
        record {
          closed = λ _ i l. let z : ⊥ = omega arith in absurd z;
          opened = λ f. absurd (false≢true (sym (ap (λ (v : Device). is_open v.phase) (new-device R s new d)) ∙ f));
        }
    track-at d (suc t) = track-step t d (turn_at t) (track-at d t)
