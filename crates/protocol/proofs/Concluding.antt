-- What a device concludes is right: what it decides is chosen, and what it carries is safe and was proposed.
use Rattle.std.proofs.Common.{◌≡◌, ℕ, ◌<◌, ◌≤◌, Bool, true, false, eqb, ◌⊎◌, List, map, take, drop, Some, sym, refl, ap, ◌∙◌, subst, inl, inr, ⊎_elim, arith, take-append-drop}
use lib.ListN.{length-map}
use Rattle.std.proofs.lemmas.Bool.{cases_order, cond_both, false≢true, eqb-true, eqb-false}
use Rattle.record.specs.Entry.{Entry}
use Rattle.record.specs.declared.value.Value.{Value}
use Rattle.journal.specs.Log.{unread, says}
use Rattle.journal.specs.declared.view.View.{View}
use Rattle.quorum.specs.Rules.{marked, Rule, Lawful}
use Rattle.protocol.specs.Device.{Device, is_open, is_preparing, next_version, own_ballot, fresh, slot_at, with_sent, carrying}
use Rattle.protocol.specs.Deciding.{own_marks, accepting, promising, highest, choice, decision}
use Rattle.protocol.specs.declared.phase.Phase.TheVariants.{Accepting}
use Rattle.protocol.specs.declared.slot.Slot.{Slot}
use Rattle.protocol.proofs.Lists.{mapped}
use Rattle.protocol.proofs.Logs.{promised-grows, took-cases, took-promised, took-accepted, accepted-took, promised-from, IsPrepare, Mem, mem-left}
use Rattle.protocol.proofs.Votes.{Logs, Wrote, Voted, voted-wrote, Blocked, Chosen, Promised, Safe, LogsOk}
use Rattle.protocol.proofs.Phases.{accepting-open, preparing-open, not-both}
use Rattle.protocol.proofs.Slots.{SlotOk, slot-accepting, view-whole, voted-whole}
use Rattle.protocol.proofs.Tallies.{marked-slot, highest-max, highest-from, agreed-from, decision-cases}
use Rattle.protocol.proofs.Devices.{DeviceOk}

module _ (R : Rule) (lawful : Lawful R) (P : ℕ → Value → Type 0) (L : Logs) (logs : LogsOk R P L) (d : ℕ) (v : Device) (h : DeviceOk R P L d v) where
  abbrev w : ℕ
  w = next_version v

  abbrev b : ℕ
  b = own_ballot d v

  -- what the device has read of account k
  abbrev part : ℕ → List Entry
  part k = take (slot_at v k).place (L k)

  -- a mark for each of the rule's accounts
  by-slot : (f : Slot → Bool) (k : ℕ) → k < R.size → marked (map f v.slots) k ≡ f (slot_at v k)
  by-slot f k l = marked-slot f v.slots k (omega (arith, lawful.few, h.wide, l))

  part-wrote : (k c : ℕ) (x : Value) → Voted (part k) w c x → Wrote L w c x
  part-wrote k c x t = voted-wrote L k w c x (voted-whole (slot_at v k).place w c x (L k) t)

  -- a nonzero accepted ballot was accepted, with its value
  accepted-voted : (k : ℕ) → 0 < (slot_at v k).view.accepted → Voted (L k) w (slot_at v k).view.accepted (slot_at v k).view.value
  accepted-voted k l =
      let e = (h.slots k).view in
      ⊎_elim
      (λ t. voted-whole (slot_at v k).place w _ _ (L k) (subst (λ (u : View). Voted (part k) w u.accepted u.value) (sym e) t))
      (λ z. let none : ⊥ = omega (arith, l, z.0, ap (λ (u : View). u.accepted) e) in absurd none)
      (accepted-took w unread (part k))

  chosen-own : R.is_quorum (own_marks v.slots) ≡ true → Chosen R L w v.carried
  chosen-own q =
      record {
        at = b;
        by = own_marks v.slots;
        quorum = q;
        voted = λ k l o.
            let t = (h.slots k).own (sym (by-slot (λ s. s.own) k l) ∙ o) in
            let same = h.mine w t.1 (part-wrote k b t.1 t.2) (accepting-open v.phase t.0) in
            subst (Voted (L k) w b) same.2 (voted-whole (slot_at v k).place w b t.1 (L k) t.2);
      }

  chosen-accepted : (j : ℕ) → 0 < (slot_at v j).view.accepted → R.is_quorum (accepting (slot_at v j).view.accepted v.slots) ≡ true
      → Chosen R L w (slot_at v j).view.value
  chosen-accepted j pos q =
      record {
        at = c;
        by = accepting c v.slots;
        quorum = q;
        voted = λ k l o.
            let same = eqb-true (slot_at v k).view.accepted c (sym (by-slot (λ s. eqb s.view.accepted c) k l) ∙ o) in
            let t = subst (λ n. Voted (L k) w n (slot_at v k).view.value) same (accepted-voted k (omega (arith, pos, same))) in
            subst (Voted (L k) w c)
            (logs.unique w c _ _ (voted-wrote L k w c _ t) (voted-wrote L j w c _ (accepted-voted j pos))) t;
      }
    where
      c : ℕ
      c = (slot_at v j).view.accepted

  -- what is decided is chosen
  pub decision-chosen : (x : Value) → decision R v ≡ Some x → Chosen R L w x
  decision-chosen x e =
      ⊎_elim
      (λ own. subst (Chosen R L w) own.1 (chosen-own own.0))
      (λ t.
      let q = agreed-from R v.slots v.slots x t in
      subst (Chosen R L w) q.3 (chosen-accepted q.0 q.1 q.2))
      (decision-cases R v x e)

  module _ (quorum : R.is_quorum (promising b v.slots) ≡ true) where
    promised-own : (k : ℕ) → k < R.size → promising b v.slots k ≡ true → (slot_at v k).view.promised ≡ b
    promised-own k l e = eqb-true _ _ (sym (by-slot (λ s. eqb s.view.promised b) k l) ∙ e)

    -- a lower ballot that was not accepted where the device has read is blocked by those who promised the own one
    lower-blocked : (c : ℕ) → c < b → ((k : ℕ) → k < R.size → (x : Value) → Voted (part k) w c x → ⊥) → Blocked R L w c
    lower-blocked c lt free =
        record {
          by = promising b v.slots;
          quorum = quorum;
          past = λ k l e. omega (arith, lt, promised-own k l e, grown k);
          never = λ k l e x t.
              ⊎_elim (free k l x)
              (λ u.
              let q = took-promised w c x _ (drop (slot_at v k).place (L k)) u in
              omega (arith, lt, promised-own k l e, ap (λ (z : View). z.promised) (h.slots k).view, q))
              (took-cases w c x unread (part k) (drop (slot_at v k).place (L k))
              (subst (λ l. Voted l w c x) (sym (take-append-drop (slot_at v k).place (L k))) t));
        }
      where
        grown : (k : ℕ) → (slot_at v k).view.promised ≤ (says w (L k)).promised
        grown k =
            let e = ap (λ (z : View). z.promised) (view-whole w (L k) (slot_at v k) (h.slots k).view) in
            omega (arith, e, promised-grows w (slot_at v k).view (drop (slot_at v k).place (L k)))

    -- nothing above the highest accepted ballot was accepted where the device has read
    above-highest : (c : ℕ) → (highest v.slots).accepted < c → (k : ℕ) → k < R.size → (x : Value) → Voted (part k) w c x → ⊥
    above-highest c lt k l x t =
        omega (arith, lt, highest-max v.slots k, took-accepted w c x unread _ t, ap (λ (z : View). z.accepted) (h.slots k).view)

    -- the highest accepted ballot, where there is one, was written
    highest-wrote : ((highest v.slots).accepted ≡ 0 → ⊥) → Wrote L w (highest v.slots).accepted (highest v.slots).value
    highest-wrote ne =
        ⊎_elim (λ z. absurd (ne z))
        (λ q.
        let pos : 0 < (slot_at v q.0).view.accepted = omega (arith, ne, ap (λ (z : View). z.accepted) q.1) in
        subst (λ (u : View). Wrote L w u.accepted u.value) (sym q.1) (voted-wrote L q.0 w _ _ (accepted-voted q.0 pos)))
        (highest-from v.slots)

    choice-safe : Safe R L w b (choice v)
    choice-safe c lt =
        cond_both (eqb (highest v.slots).accepted 0) v.proposed (highest v.slots).value (λ x. Blocked R L w c ⊎ Wrote L w c x)
        (λ e. inl (lower-blocked c lt (nothing (eqb-true _ _ e))))
        (λ e. by-highest (highest-wrote (eqb-false _ _ e)))
      where
        nothing : (highest v.slots).accepted ≡ 0 → (k : ℕ) → k < R.size → (x : Value) → Voted (part k) w c x → ⊥
        nothing z k l x t = above-highest c (omega (arith, logs.positive w c x (part-wrote k c x t), z)) k l x t

        by-highest : Wrote L w (highest v.slots).accepted (highest v.slots).value → Blocked R L w c ⊎ Wrote L w c (highest v.slots).value
        by-highest q =
            ⊎_elim
            (λ same. inr (subst (λ i. Wrote L w i (highest v.slots).value) (sym same) q))
            (λ o. ⊎_elim (λ less. logs.safe w _ _ q c less) (λ more. inl (lower-blocked c lt (above-highest c more))) o)
            (cases_order c (highest v.slots).accepted)

    choice-proposed : is_open v.phase ≡ true → P v.known (choice v)
    choice-proposed o =
        cond_both (eqb (highest v.slots).accepted 0) v.proposed (highest v.slots).value (P v.known)
        (λ e. h.proposed o)
        (λ e.
        let q = logs.proposed w _ _ (highest-wrote (eqb-false _ _ e)) in
        let same : q.0 ≡ v.known = omega (arith, q.1) in
        subst (λ i. P i (highest v.slots).value) same q.2)

    -- those who promised hold a PREPARE of the ballot
    choice-promised : 0 < b → Promised R L w b
    choice-promised pos =
        record {
          by = promising b v.slots;
          quorum = quorum;
          prepared = λ k l e.
              let same = promised-own k l e in
              let view = ap (λ (z : View). z.promised) (h.slots k).view in
              ⊎_elim
              (λ q. (
                q.0,
                subst (Mem q.0) (take-append-drop (slot_at v k).place (L k)) (mem-left q.0 (part k) _ q.1),
                subst (λ n. IsPrepare w n q.0) (sym view ∙ same) q.2,
              ))
              (λ z. let none : ⊥ = omega (arith, pos, same, view, z) in absurd none)
              (promised-from w unread (part k));
        }

    pub ok-carrying : is_preparing v.phase ≡ true → DeviceOk R P L d (carrying v (choice v))
    ok-carrying pr =
        let o = preparing-open v.phase pr in
        record {
          wide = length-map v.slots (λ s. with_sent s false) ∙ h.wide;
          slots =
              mapped fresh (λ i q. SlotOk w b Accepting (L i) q) (λ s. with_sent s false) v.slots refl
              (λ k. slot-accepting w b _ (L k) (slot_at v k) (h.slots k));
          used = h.used;
          mine = λ c x q _. absurd (not-both v.phase pr (h.mine c x q o).0);
          safe = λ _. choice-safe;
          promised = λ _. choice-promised (omega (arith, h.started o));
          carried = λ _. choice-proposed o;
          proposed = λ _. h.proposed o;
          started = λ _. h.started o;
          not_last = λ _. h.not_last o;
          outside = λ j. absurd (false≢true (sym (h.outside j).2 ∙ o));
        }
