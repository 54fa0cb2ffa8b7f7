-- What a device keeps about one account says of that account's log, and how each change of it keeps that.
use Rattle.std.proofs.Common.{◌≡◌, ℕ, ◌≤◌, true, false, List, ◌++◌, length, take, drop, sym, refl, ap, ◌∙◌, subst, ⊎_elim, arith, length-append, take-append-drop}
use lib.Seq.{take-append-le, take-length}
use Rattle.std.proofs.lemmas.Bool.{false≢true}
use Rattle.record.specs.Entry.{Entry}
use Rattle.record.specs.declared.value.Value.{Value}
use Rattle.journal.specs.Log.{unread, view, says}
use Rattle.journal.specs.declared.view.View.{View}
use Rattle.protocol.specs.Device.{Device, is_accepting, next_version, own_ballot, fresh, slot_at, with_sent, unmarked}
use Rattle.protocol.specs.Reading.{notes_before, slot_after}
use Rattle.protocol.specs.declared.phase.Phase.{Phase}
use Rattle.protocol.specs.declared.phase.Phase.TheVariants.{Accepting}
use Rattle.protocol.specs.declared.slot.Slot.{Slot}
use Rattle.protocol.proofs.Logs.{Took, view-append, took-left, took-right}
use Rattle.protocol.proofs.Noting.{notes-view, notes-own}
use Rattle.protocol.proofs.Votes.{Voted}

-- at version w, for a device in phase p whose ballot is b, of a log l
pub record SlotOk (w b : ℕ) (p : Phase) (l : List Entry) (s : Slot) : Type 0 where
  pub place : s.place ≤ length l
  -- the view is what the records up to the place say
  pub view : s.view ≡ says w (take s.place l)
  -- an own mark: the device's ACCEPT is accepted there
  pub own : s.own ≡ true → (is_accepting p ≡ true) × (x : Value) × Voted (take s.place l) w b x

pub slot-fresh : (w b : ℕ) (p : Phase) (l : List Entry) → SlotOk w b p l fresh
unfolding view
slot-fresh w b p l = record { place = omega arith; view = refl; own = λ e. absurd (false≢true e) }

-- without marks it says as much to any ballot in any phase
pub slot-unmarked : (w b b' : ℕ) (p p' : Phase) (l : List Entry) (s : Slot) → SlotOk w b p l s → SlotOk w b' p' l (unmarked s)
slot-unmarked w b b' p p' l s h = record { place = h.place; view = h.view; own = λ e. absurd (false≢true e) }

pub slot-accepting : (w b : ℕ) (p : Phase) (l : List Entry) (s : Slot) → SlotOk w b p l s → SlotOk w b Accepting l (with_sent s false)
slot-accepting w b p l s h = record { place = h.place; view = h.view; own = λ e. (refl, (h.own e).1, (h.own e).2) }

pub slot-sent : (w b : ℕ) (p : Phase) (l : List Entry) (s : Slot) → SlotOk w b p l s → SlotOk w b p l (with_sent s true)
slot-sent w b p l s h = record { place = h.place; view = h.view; own = h.own }

-- a log that grew
pub slot_grows : (w b : ℕ) (p : Phase) (l l' more : List Entry) (s : Slot) → l' ≡ l ++ more → SlotOk w b p l s → SlotOk w b p l' s
slot_grows w b p l l' more s e h =
    let same : take s.place l' ≡ take s.place l = ap (take s.place) e ∙ take-append-le s.place l more h.place in
    record {
      place = omega (arith, ap length e, length-append l more, h.place);
      view = h.view ∙ ap (says w) (sym same);
      own = λ o. ((h.own o).0, (h.own o).1, subst (λ q. Voted q w b (h.own o).1) (sym same) (h.own o).2);
    }

-- what the records after the place add makes the view of the whole log
pub view-whole : (w : ℕ) (l : List Entry) (s : Slot) → s.view ≡ says w (take s.place l) → view w s.view (drop s.place l) ≡ says w l
view-whole w l s e =
    ap (λ (u : View). view w u (drop s.place l)) e ∙ sym (view-append w unread (take s.place l) (drop s.place l))
    ∙ ap (says w) (take-append-drop s.place l)

pub voted-whole : (n w b : ℕ) (x : Value) (l : List Entry) → Voted (take n l) w b x → Voted l w b x
voted-whole n w b x l t = subst (λ q. Voted q w b x) (take-append-drop n l) (took-left w b x unread (take n l) (drop n l) t)

-- the slot of an account that was read to its end
pub slot-after : (d k : ℕ) (v : Device) (l : List Entry) → SlotOk (next_version v) (own_ballot d v) v.phase l (slot_at v k)
    → SlotOk (next_version v) (own_ballot d v) v.phase l (slot_after d v k l)
slot-after d k v l h =
    record {
      place = omega arith;
      view = notes-view d v (notes_before v k) new ∙ view-whole w l s h.view ∙ ap (says w) (sym (take-length l));
      own = λ o.
          ⊎_elim
          (λ e. ((h.own e).0, (h.own e).1, all (h.own e).1 (voted-whole s.place w b (h.own e).1 l (h.own e).2)))
          (λ t. (
            t.0,
            t.1,
            all t.1 (subst (λ q. Voted q w b t.1) (take-append-drop s.place l)
                (took-right w b t.1 unread (take s.place l) new (subst (λ u. Took w b t.1 u new) h.view t.2))),
          ))
          (notes-own d v (notes_before v k) new o);
    }
  where
    w : ℕ
    w = next_version v

    b : ℕ
    b = own_ballot d v

    s : Slot
    s = slot_at v k

    new : List Entry
    new = drop s.place l

    all : (x : Value) → Voted l w b x → Voted (take (length l) l) w b x
    all x t = subst (λ q. Voted q w b x) (sym (take-length l)) t
