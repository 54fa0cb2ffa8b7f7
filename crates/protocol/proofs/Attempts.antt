-- While nobody has used the last attempt, no record and no device has it; and a device has seen attempts at least as high as any promise that it has read.
use Rattle.std.proofs.Common.{◌≡◌, ℕ, ◌+◌, ◌*◌, ◌<◌, ◌≤◌, Bool, false, List, [], ◌∷◌, length, take, drop, sym, refl, ap, subst, ⊎_elim, arith, take-append-drop}
use Rattle.record.specs.Entry.{Entry}
use Rattle.record.specs.declared.value.Value.{Value}
use Rattle.journal.specs.declared.view.View.{View}
use Rattle.quorum.specs.Rules.{Rule, Lawful}
use Rattle.protocol.specs.Device.{last_attempt, Device, next_attempt, fresh, slot_at, new_device, with_slot, with_sent, unmarked, opened, carrying, holding, request}
use Rattle.protocol.specs.Reading.{notes_before, notes_after, caught_up}
use Rattle.protocol.specs.State.{State, log_at, device_at, put_device}
use Rattle.protocol.specs.Runs.{New}
use Rattle.protocol.specs.declared.answer.Answer.{Answer}
use Rattle.protocol.specs.declared.answer.Answer.TheVariants.{Attempt}
use Rattle.protocol.specs.declared.call.Call.{Call}
use Rattle.protocol.specs.declared.outcome.Outcome.{Outcome}
use Rattle.protocol.specs.declared.slot.Slot.{Slot}
use Rattle.protocol.proofs.Accounts.{append_to, log-appended}
use Rattle.protocol.proofs.Effects.{Conclusion, decides, preempts, prepares, waits, Change, joins, links, proposes, retries, reads, restarts, Sender, Effect, refused, tells, changes, loses, sends}
use Rattle.protocol.proofs.Invariant.{Inv, new-device}
use Rattle.protocol.proofs.Lists.{get_or-same, mapped, placed}
use Rattle.protocol.proofs.Logs.{Mem, mem-right, mem-cases, mem-one}
use Rattle.protocol.proofs.Noting.{seen-grows, seen_below, heard}

pub record Spare (v : Device) : Type 0 where
  pub attempt : v.attempt < last_attempt
  pub seen : v.seen < last_attempt
  pub heard : (k : ℕ) → (slot_at v k).view.promised ≤ v.seen * 16 + 15

pub record Unspent (s : State) : Type 0 where
  pub records : (k : ℕ) (e : Entry) → Mem e (log_at s k) → e.attempt < last_attempt
  pub devices : (d : ℕ) → d < 16 → Spare (device_at s d)

-- a device that has read nothing for its next version
spare-clear : (v : Device) → v.attempt < last_attempt → (n : ℕ) (x : Value) → Spare (holding v n x)
spare-clear v l n x =
    record {
      attempt = l;
      seen = omega arith;
      heard = λ k. subst (λ (s : Slot). s.view.promised ≤ 0 * 16 + 15) (sym (get_or-same 7 k fresh)) (omega arith);
    }

spare-new : (joined : Bool) → Spare (new_device joined)
spare-new joined = spare-clear (new_device joined) (omega arith) 0 _

module _ (v : Device) (h : Spare v) where
  spare-slot : (j : ℕ) (s : Slot) → j < length v.slots → s.view ≡ (slot_at v j).view → Spare (with_slot v j s v.seen)
  spare-slot j s l e =
      record {
        attempt = h.attempt;
        seen = h.seen;
        heard =
            placed fresh (λ _ q. q.view.promised ≤ v.seen * 16 + 15) v.slots j s l
            (omega (arith, ap (λ (u : View). u.promised) e, h.heard j)) h.heard;
      }

  spare-opened : (x : Value) → next_attempt v < last_attempt → Spare (opened v x)
  spare-opened x l =
      record { attempt = l; seen = h.seen; heard = mapped fresh (λ _ q. q.view.promised ≤ v.seen * 16 + 15) unmarked v.slots refl h.heard }

  spare-carrying : (x : Value) → Spare (carrying v x)
  spare-carrying x =
      record {
        attempt = h.attempt;
        seen = h.seen;
        heard = mapped fresh (λ _ q. q.view.promised ≤ v.seen * 16 + 15) (λ s. with_sent s false) v.slots refl h.heard;
      }

below : (a : ℕ) → a ≤ last_attempt → (a ≡ last_attempt → ⊥) → a < last_attempt
below a l ne = omega arith

mem-drop : (e : Entry) (n : ℕ) (es : List Entry) → Mem e (drop n es) → Mem e es
mem-drop e n es m = subst (Mem e) (take-append-drop n es) (mem-right e (take n es) (drop n es) m)

module _ (R : Rule) (lawful : Lawful R) (P : ℕ → Value → Type 0) (s : State) (i : Inv R P s) (z : Unspent s) where
  within : (d k : ℕ) → d < 16 → k < R.size → k < length (device_at s d).slots
  within d k l kn = omega (arith, (i.devices d l).wide, lawful.few, kn)

  spare-caught : (d k : ℕ) → d < 16 → k < R.size → Spare (caught_up d (device_at s d) k (log_at s k))
  spare-caught d k l kn =
      record {
        attempt = h.attempt;
        seen = seen_below d v last_attempt (notes_before v k) new h.seen (λ e m. z.records k e (mem-drop e _ (log_at s k) m));
        heard =
            placed fresh (λ _ q. q.view.promised ≤ (notes_after d v k (log_at s k)).seen * 16 + 15) v.slots k _ (within d k l kn)
            (heard d v (notes_before v k) new (h.heard k) (λ e m. i.logs.writers k e (mem-drop e _ (log_at s k) m)))
            (λ j. omega (arith, h.heard j, seen-grows d v (notes_before v k) new));
      }
    where
      v : Device
      v = device_at s d

      h : Spare v
      h = z.devices d l

      new : List Entry
      new = drop (slot_at v k).place (log_at s k)

  spare-concluded : (d : ℕ) (v : Device) (o : Outcome) (v' : Device) → Spare v → Conclusion R d v o v' → Spare v'
  spare-concluded d v o v' h (decides x e) = spare-clear v h.attempt _ x
  spare-concluded d v o v' h (preempts e a) = h
  spare-concluded d v o v' h (prepares e p q) = spare-carrying v h _
  spare-concluded d v o v' h (waits e n) = h

  spare-change : (d : ℕ) (c : Call) (a : Answer) (v : Device) → d < 16 → (a ≡ Attempt last_attempt → ⊥) → Change R s d c a v → Spare v
  spare-change d c a v l f (joins j) = spare-new _
  spare-change d c a v l f (links k x j) =
      record { attempt = (z.devices d l).attempt; seen = (z.devices d l).seen; heard = (z.devices d l).heard }
  spare-change d c a v l f (proposes b x j g e last m) = spare-opened _ (z.devices d l) x (below _ m (λ q. f (ap Attempt q)))
  spare-change d c a v l f (retries j o m) = spare-opened _ (z.devices d l) _ (below _ m (λ q. f (ap Attempt q)))
  spare-change d c a v l f (reads {o = o} k n j kn q) = spare-concluded d _ o v (spare-caught d k l kn) q
  spare-change d c a v l f (restarts j) = spare-clear (device_at s d) (z.devices d l).attempt _ _

  unspent-put : (t : State) (d : ℕ) (v : Device) → t.devices ≡ s.devices → d < 16 → Unspent t → Spare v → Unspent (put_device t d v)
  unspent-put t d v e l u h =
      record {
        records = u.records;
        devices =
            placed (new_device false) (λ j w. j < 16 → Spare w) t.devices d v (omega (arith, ap length e, i.sixteen, l)) (λ _. h) u.devices;
      }

  unspent-append : (d k : ℕ) → Sender R s d k → Unspent (append_to s k (request d (device_at s d)))
  unspent-append d k p =
      record {
        records = λ j e m.
            ⊎_elim
            (λ q. ⊎_elim (z.records j e)
            (λ n. subst (λ (f : Entry). f.attempt < last_attempt) (sym (mem-one e _ n)) (z.devices d p.low).attempt)
            (mem-cases e (log_at s j) (request d (device_at s d) ∷ []) (subst (Mem e) q m)))
            (λ q. z.records j e (subst (Mem e) q m))
            (log-appended s k (request d (device_at s d)) (omega (arith, i.accounts, p.account)) j);
        devices = z.devices;
      }

  -- a call that does not use the last attempt
  pub unspent-step : (c : Call) (a : Answer) (s' : State) → (a ≡ Attempt last_attempt → ⊥) → Effect R s c a s' → Unspent s'
  unspent-step c a s' f (refused e) = z
  unspent-step c a s' f (tells d) = z
  unspent-step c a s' f (changes {v = v} d l q) = unspent-put s d v refl l z (spare-change d c a v l f q)
  unspent-step c a s' f (loses d k e p) = unspent-append d k p
  unspent-step c a s' f (sends d k n p) =
      unspent-put _ d _ refl p.low (unspent-append d k p)
      (spare-slot _ (z.devices d p.low) k _ (within d k p.low p.account) refl)

pub unspent-new : (R : Rule) (s : State) → New R s → Unspent s
unfolding Mem
unspent-new R s new =
    record {
      records = λ k e m. absurd (subst (Mem e) (new.empty k) m);
      devices = λ d l. subst Spare (sym (new-device R s new d)) (spare-new false);
    }
