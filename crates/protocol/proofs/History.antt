-- The order of a run's proposals, built call by call. Where a version is decided for the first time, the proposal whose value it is comes
-- next; and the device that decides has its own proposal put last, unless it stands there already.
use Rattle.std.proofs.Common.{◌≡◌, ℕ, zero, suc, ◌+◌, ◌<◌, ◌≤◌, true, false, List, [], ◌∷◌, ◌++◌, length, get_or, take, Some, Option, sym, refl, ap, ◌∙◌, subst, ⊎_elim, arith}
use Rattle.std.proofs.lemmas.List.{length_push, get_or_append_left, get_or_push, get_or_past}
use Rattle.std.proofs.lemmas.Bool.{cases_eq, cases_lt, cases_Bool}
use Rattle.record.specs.Entry.{no_value}
use Rattle.record.specs.declared.value.Value.{Value}
use Rattle.quorum.specs.Rules.{Rule, Lawful}
use Rattle.protocol.specs.Device.{Device, is_open}
use Rattle.protocol.specs.State.{State, log_at, device_at, held}
use Rattle.protocol.specs.Runs.{New, call_at, after, said}
use Rattle.protocol.specs.Chain.{hand, entry, reply, proposal_of, proposal, Opens, Decides, Answered, chain_of, One-order}
use Rattle.protocol.specs.declared.call.Call.{Call}
use Rattle.protocol.specs.declared.call.Call.TheVariants.{Known, Read}
use Rattle.protocol.specs.declared.version.Version.{Version}
use Rattle.protocol.proofs.Chaining.{hand-adds, hand-keeps}
use Rattle.protocol.proofs.Concluding.{decision-chosen}
use Rattle.protocol.proofs.Invariant.{new-device, ok-caught}
use Rattle.protocol.proofs.Orders.{Stands, Absent, stands, Begins, Base, Ordered, ordered-none, chain_more, ordered-more, ordered-next}
use Rattle.protocol.proofs.Tracks.{Proposed, StillOpen, calm-decides, decides-by, inv_at, turn_at, grows_at, track-at}
use Rattle.protocol.proofs.Turns.{caller, Becomes, Turn, calm, opening, deciding, restarting}
use Rattle.protocol.proofs.Votes.{Chosen, chosen-grows, chosen-wrote, agreement}

-- a call past the end is none that reads
pub read-within : (cs : List Call) (j d k : ℕ) → call_at cs j ≡ Read d k → j < length cs
read-within cs j d k e =
    ⊎_elim (λ l. l) (λ g. let p = get_or_past cs j (Known 0) g in let z : ◌≡◌ {A = ℕ} 0 1 = cc in omega arith) (cases_lt j (length cs))

module _ (R : Rule) (lawful : Lawful R) (s : State) (new : New R s) (cs : List Call) where
  abbrev now : ℕ → State
  now t = after R s cs t

  abbrev known : ℕ → ℕ → ℕ
  known t d = (device_at (now t) d).known

  abbrev value : ℕ → ℕ → Value
  value t d = (device_at (now t) d).value

  abbrev Chained : List ℕ → List Value
  Chained order = chain_of R s cs order

  -- what the chain says of the logs and of the devices after t calls: its entries are chosen, and a device holds none or one of them
  record Agreed (t : ℕ) (xs : List Value) : Type 0 where
    pub chosen : (u : ℕ) → u < length xs → Chosen R (log_at (now t)) (u + 1) (get_or xs u no_value)
    pub below : (d : ℕ) → known t d ≤ length xs
    pub holds : (d u : ℕ) → known t d ≡ u + 1 → value t d ≡ get_or xs u no_value

  proposal-is : (d i : ℕ) (o : Opens R s cs d i) → (Base R s cs i ≡ o.base) × ((proposal R s cs i).value ≡ o.value)
  proposal-is d i o = (ap (λ c. (proposal_of c).base) o.calls, ap (λ c. (proposal_of c).value) o.calls)

  -- device d decides the value x for its next version
  module _ (t : ℕ) (order : List ℕ) (h : Ordered R s cs t order) (agreed : Agreed t (Chained order)) (d : ℕ) (x : Value)
      (c : Chosen R (log_at (now t)) (known t d + 1) x) where
    abbrev K : ℕ
    K = known t d

    -- an order that goes on from this one, in whose chain that version stands
    record Reaches : Type 0 where
      pub order' : List ℕ
      pub ordered : Ordered R s cs t order'
      pub agreed' : Agreed t (Chained order')
      pub below : K < length (Chained order')
      pub entry : get_or (Chained order') K no_value ≡ x

    reach-old : K < length (Chained order) → Reaches
    reach-old l =
        record {
          order' = order;
          ordered = h;
          agreed' = agreed;
          below = l;
          entry = agreement R lawful (log_at (now t)) (K + 1) (Proposed R s cs t) (inv_at R s cs lawful new t).logs _ x (agreed.chosen K l) c;
        }

    -- the version is decided for the first time: the proposal whose value it is comes next
    reach-new : K ≡ length (Chained order) → Reaches
    reach-new e =
        record {
          order' = order ++ i ∷ [];
          ordered = ordered-more R s cs t order h w.2 i w.1 w.3 absent ys hands inside begins;
          agreed' = subst (Agreed t) (sym chains) agreed-more;
          below = subst (λ xs. K < length xs) (sym chains) (omega (arith, length_push (Chained order) x, e));
          entry = ap (λ xs. get_or xs K no_value) chains ∙ get_or_push (Chained order) x no_value K (sym e);
        }
      where
        valid : (b : ℕ) × (K + 1 ≡ b + 1) × Proposed R s cs t b x
        valid = (inv_at R s cs lawful new t).logs.proposed (K + 1) c.at x (chosen-wrote R lawful (log_at (now t)) (K + 1) x c)

        w : Proposed R s cs t valid.0 x
        w = valid.2

        i : ℕ
        i = w.0

        base : Base R s cs i ≡ K
        base = omega (arith, (proposal-is w.2 i w.3).0, w.4, valid.1)

        ys : List Value
        ys = Chained order ++ x ∷ []

        hands : hand (Chained order) (proposal R s cs i) ≡ ys
        hands =
            hand-adds (Chained order) (proposal R s cs i) (base ∙ e)
            ∙ ap (λ y. Chained order ++ y ∷ []) ((proposal-is w.2 i w.3).1 ∙ w.5)

        inside : Base R s cs i < length ys
        inside = omega (arith, base, e, length_push (Chained order) x)

        begins : Begins (Chained order) ys
        begins u l = (omega (arith, l, length_push (Chained order) x), get_or_append_left (Chained order) (x ∷ []) no_value u l)

        absent : Absent order i
        absent p l q = omega (arith, h.based p l, ap (Base R s cs) q, base, e)

        chains : Chained (order ++ i ∷ []) ≡ ys
        chains = chain_more R s cs t order h w.2 i w.1 w.3 absent ys hands inside begins

        agreed-more : Agreed t ys
        agreed-more =
            record {
              chosen = λ u l.
                  ⊎_elim
                  (λ l'. subst (Chosen R (log_at (now t)) (u + 1)) (sym (begins u l').1) (agreed.chosen u l'))
                  (λ g.
                  let same : u ≡ K = omega (arith, l, g, e, length_push (Chained order) x) in
                  subst (Chosen R (log_at (now t)) (u + 1)) (sym (get_or_push (Chained order) x no_value u (omega (arith, same, e))))
                  (subst (λ n. Chosen R (log_at (now t)) (n + 1) x) (sym same) c))
                  (cases_lt u (length (Chained order)));
              below = λ j. omega (arith, agreed.below j, length_push (Chained order) x);
              holds = λ j u q. agreed.holds j u q ∙ sym (begins u (omega (arith, agreed.below j, q))).1;
            }

    reaches : Reaches
    reaches = ⊎_elim reach-old (λ g. reach-new (omega (arith, g, agreed.below d))) (cases_lt K (length (Chained order)))

    -- and in which the device's own proposal stands too, if one is open
    record Includes : Type 0 where
      pub reached : Reaches
      pub own : (i : ℕ) → i < t → Opens R s cs d i → StillOpen R s cs d i t → Stands reached.order' i × (Base R s cs i ≡ K)

    include-none : (r : Reaches) → is_open (device_at (now t) d).phase ≡ false → Includes
    include-none r f = record { reached = r; own = λ i l o u. absurd ((track-at R s cs lawful new d t).closed f i l o u) }

    include-own : (r : Reaches) → is_open (device_at (now t) d).phase ≡ true → Includes
    include-own r f = ⊎_elim standing joining (stands r.order' i)
      where
        q : (i : ℕ) × (i < t) × (o : Opens R s cs d i) × (o.base ≡ K) × ((i' : ℕ) → i' < t → Opens R s cs d i' → StillOpen R s cs d i' t → i' ≡ i)
        q = (track-at R s cs lawful new d t).opened f

        i : ℕ
        i = q.0

        base : Base R s cs i ≡ K
        base = (proposal-is d i q.2).0 ∙ q.3

        the_own : (order : List ℕ) → Stands order i
            → (i' : ℕ) → i' < t → Opens R s cs d i' → StillOpen R s cs d i' t → Stands order i' × (Base R s cs i' ≡ K)
        the_own order p i' l o u = let e = q.4 i' l o u in ((p.0, p.1, p.2 ∙ sym e), ap (Base R s cs) e ∙ base)

        standing : Stands r.order' i → Includes
        standing p = record { reached = r; own = the_own r.order' p }

        joining : Absent r.order' i → Includes
        joining absent =
            let ys = Chained r.order' in
            let inside : Base R s cs i < length ys = omega (arith, base, r.below) in
            let hands = hand-keeps ys (proposal R s cs i) inside in
            let begins : Begins ys ys = λ u l. (l, refl) in
            let chains : Chained (r.order' ++ i ∷ []) ≡ ys = chain_more R s cs t r.order' r.ordered d i q.1 q.2 absent ys hands inside begins in
            record {
              reached =
                  record {
                    order' = r.order' ++ i ∷ [];
                    ordered = ordered-more R s cs t r.order' r.ordered d i q.1 q.2 absent ys hands inside begins;
                    agreed' = subst (Agreed t) (sym chains) r.agreed';
                    below = subst (λ xs. K < length xs) (sym chains) r.below;
                    entry = ap (λ xs. get_or xs K no_value) chains ∙ r.entry;
                  };
              own =
                  the_own (r.order' ++ i ∷ [])
                  (length r.order', omega (arith, length_push r.order' i), get_or_push r.order' i 0 _ refl);
            }

    includes : Includes
    includes = ⊎_elim (include-own reaches) (include-none reaches) (cases_Bool (is_open (device_at (now t) d).phase))

  abbrev History : ℕ → Type 0
  History t = (order : List ℕ) × Ordered R s cs t order × Agreed t (Chained order)

  -- a call that decides nothing
  plain-next : (t : ℕ) → History t → ((d : ℕ) → Decides R s cs d t → ⊥)
      → ((d : ℕ) → (known (suc t) d ≡ known t d) × ((u : ℕ) → known t d ≡ u + 1 → value (suc t) d ≡ value t d)) → History (suc t)
  plain-next t (order, h, agreed) undecided kept = (
    order,
    ordered-next R s cs t order h (λ d i a. absurd (undecided d a.decided)),
    record {
      chosen = λ u l. chosen-grows _ _ (grows_at R s cs lawful new t) R (u + 1) _ (agreed.chosen u l);
      below = λ d. omega (arith, (kept d).0, agreed.below d);
      holds = λ d u q. let e = sym (kept d).0 ∙ q in (kept d).1 u e ∙ agreed.holds d u e;
    },
  )

  -- a call that leaves the version of the one device that it changes
  others-next : (t : ℕ) → History t → ((d : ℕ) → Decides R s cs d t → ⊥) → (e : ℕ) (v : Device) → Becomes (now t) (now (suc t)) e v
      → v.known ≡ known t e → v.value ≡ value t e → History (suc t)
  others-next t h undecided e v is k x =
      plain-next t h undecided
      (λ d. ⊎_elim
      (λ same. subst (λ j. (known (suc t) j ≡ known t j) × ((u : ℕ) → known t j ≡ u + 1 → value (suc t) j ≡ value t j)) (sym same)
      (ap (λ (u : Device). u.known) is.here ∙ k, λ _ _. ap (λ (u : Device). u.value) is.here ∙ x))
      (λ ne. (ap (λ (u : Device). u.known) (is.there d ne), λ _ _. ap (λ (u : Device). u.value) (is.there d ne)))
      (cases_eq d e))

  -- a call that decides a version
  decide-next : (t : ℕ) → History t → (d k : ℕ) (x : Value) (v : Device) → call_at cs t ≡ Read d k → Chosen R (log_at (now t)) (known t d + 1) x
      → Becomes (now t) (now (suc t)) d v → v.known ≡ known t d + 1 → v.value ≡ x → History (suc t)
  decide-next t (order, h, agreed) d k x v e c is kn vx = (
    z.order',
    ordered-next R s cs t z.order' z.ordered answers,
    record {
      chosen = λ u l. chosen-grows _ _ (grows_at R s cs lawful new t) R (u + 1) _ (z.agreed'.chosen u l);
      below = λ j.
          ⊎_elim
          (λ q. subst (λ i. known (suc t) i ≤ length (Chained z.order')) (sym q) (omega (arith, knows, z.below)))
          (λ ne. subst (λ (u : Device). u.known ≤ length (Chained z.order')) (sym (is.there j ne)) (z.agreed'.below j))
          (cases_eq j d);
      holds = λ j u.
          ⊎_elim
          (λ q. subst (λ i. known (suc t) i ≡ u + 1 → value (suc t) i ≡ get_or (Chained z.order') u no_value) (sym q)
          (λ f. holds ∙ ap (λ i. get_or (Chained z.order') i no_value) (omega (arith, f, knows))))
          (λ ne. subst (λ (y : Device). y.known ≡ u + 1 → y.value ≡ get_or (Chained z.order') u no_value) (sym (is.there j ne)) (z.agreed'.holds j u))
          (cases_eq j d);
    },
  )
    where
      all : Includes t order h agreed d x c
      all = includes t order h agreed d x c

      z : Reaches t order h agreed d x c
      z = all.reached

      knows : known (suc t) d ≡ known t d + 1
      knows = ap (λ (u : Device). u.known) is.here ∙ kn

      holds : value (suc t) d ≡ get_or (Chained z.order') (known t d) no_value
      holds = ap (λ (u : Device). u.value) is.here ∙ vx ∙ sym z.entry

      answers : (d' i : ℕ) → Answered R s cs d' i t
          → Stands z.order' i × (held (now (suc t)) d' ≡ entry (Chained z.order') (Base R s cs i))
      answers d' i a =
          let same = decides-by R s cs t d' d (ap caller e) a.decided in
          let a' = subst (λ j. Answered R s cs j i t) same a in
          let q = all.own i a.later a'.opened a'.still_open in (
            q.0,
            subst (λ j. held (now (suc t)) j ≡ entry (Chained z.order') (Base R s cs i)) (sym same)
                (subst (λ b. held (now (suc t)) d ≡ entry (Chained z.order') b) (sym q.1)
                (λ i. record { number = knows i; value = holds i })),
          )

  history-step : (t : ℕ) → History t → Turn R (now t) (call_at cs t) (said R s cs t) (now (suc t)) → History (suc t)
  history-step t h (calm z k) = plain-next t h (calm-decides R s cs t z) (λ d. ((k d).known, (k d).value))
  history-step t h (opening e b n x c q f kb is) =
      others-next t h (λ d o. let i = o.calls in let z : ◌≡◌ {A = ℕ} 0 1 = cc in omega arith) e _ is refl refl
  history-step t h (deciding d k n x c q l kn st is) =
      let i = inv_at R s cs lawful new t in
      decide-next t h d k x _ c
      (decision-chosen R lawful (Proposed R s cs t) (log_at (now t)) i.logs d _ (ok-caught R lawful (Proposed R s cs t) (now t) d k i l kn) x st)
      is refl refl
  history-step t h (restarting e c q is) =
      others-next t h (λ d o. let i = o.calls in let z : ◌≡◌ {A = ℕ} 0 1 = cc in omega arith) e _ is refl refl

  history : (t : ℕ) → History t
  unfolding after
  history zero = (
    [],
    ordered-none R s cs,
    record {
      chosen = λ u l. let z : ⊥ = omega arith in absurd z;
      below = λ d. omega (arith, nobody d);
      holds = λ d u q. let z : ⊥ = omega (arith, q, nobody d) in absurd z;
    },
  )
    where
      nobody : (d : ℕ) → (device_at s d).known ≡ 0
      nobody d = ap (λ (v : Device). v.known) (new-device R s new d)
  history (suc t) = history-step t (history t) (turn_at R s cs lawful new t)

-- the law of one order
pub one-order : One-order
one-order R lawful s new cs =
    let z = history R lawful s new cs (length cs) in
    let h = z.1 in
    record {
      order = z.0;
      once = h.once;
      opened = λ p l. let q = h.opened p l in (q.1, q.2);
      answered = λ d i j a.
          let q = h.answered d i j (read-within cs j d a.decided.account a.decided.calls) a in
          let p = q.0 in (
            p.0,
            p.1,
            p.2,
            subst (λ n. reply (chain_of R s cs (take p.0 z.0)) (proposal R s cs n) ≡ Some (entry (chain_of R s cs z.0) (Base R s cs n))) p.2
                (h.replies p.0 p.1)
                ∙ ap {B = Option Version} Some (sym q.1),
          );
      earlier = h.earlier;
      holds = λ d u e. (
        omega (arith, z.2.below d, e),
        λ i. record { number = e i; value = z.2.holds d u e i },
      );
    }
