-- What a device's record says of the logs, and how each change of it keeps that.
use Rattle.std.proofs.Common.{◌≡◌, ℕ, ◌<◌, ◌≤◌, Bool, true, false, length, get_or, replicate, sym, refl, ap, ◌∙◌, subst, arith, length-set}
use lib.ListN.{length-map}
use Rattle.std.proofs.lemmas.Bool.{false≢true}
use Rattle.record.specs.Entry.{ballot_of}
use Rattle.record.specs.declared.value.Value.{Value}
use Rattle.quorum.specs.Rules.{Rule, Lawful}
use Rattle.protocol.specs.Device.{last_version, Device, is_open, is_accepting, next_version, next_attempt, own_ballot, fresh, slot_at, new_device, with_link, with_slot, unmarked, opened, holding}
use Rattle.protocol.specs.Reading.{caught_up}
use Rattle.protocol.specs.declared.link.Link.{Link}
use Rattle.protocol.specs.declared.phase.Phase.TheVariants.{Idle, Preparing}
use Rattle.protocol.specs.declared.slot.Slot.{Slot}
use Rattle.protocol.proofs.Lists.{get_or-same, mapped, placed}
use Rattle.protocol.proofs.Slots.{SlotOk, slot-fresh, slot-unmarked, slot_grows, slot-after}
use Rattle.protocol.proofs.Votes.{Logs, Wrote, Promised, Safe, Grows, promised-quorum-grows, safe-grows}

-- P b x says that a proposal with base b and value x was opened
pub record DeviceOk (R : Rule) (P : ℕ → Value → Type 0) (L : Logs) (d : ℕ) (v : Device) : Type 0 where
  pub wide : length v.slots ≡ 7
  pub slots : (k : ℕ) → SlotOk (next_version v) (own_ballot d v) v.phase (L k) (slot_at v k)
  -- its ACCEPTs are of attempts that it has used; those of its present one, while a proposal is open, are what it now sends
  pub used : (w a : ℕ) (x : Value) → Wrote L w (ballot_of a d) x → a ≤ v.attempt
  pub mine : (w : ℕ) (x : Value) → Wrote L w (own_ballot d v) x → is_open v.phase ≡ true
      → (is_accepting v.phase ≡ true) × (w ≡ next_version v) × (x ≡ v.carried)
  -- what it carries is safe and was proposed, and its ballot was promised by a quorum
  pub safe : is_accepting v.phase ≡ true → Safe R L (next_version v) (own_ballot d v) v.carried
  pub promised : is_accepting v.phase ≡ true → Promised R L (next_version v) (own_ballot d v)
  pub carried : is_accepting v.phase ≡ true → P v.known v.carried
  -- an open proposal was opened, under an attempt, and builds on another version than the last
  pub proposed : is_open v.phase ≡ true → P v.known v.proposed
  pub started : is_open v.phase ≡ true → 0 < v.attempt
  pub not_last : is_open v.phase ≡ true → v.known ≡ last_version → ⊥
  pub outside : v.joined ≡ false → (v.attempt ≡ 0) × (v.known ≡ 0) × (is_open v.phase ≡ false)

-- logs that grew by nothing of d's
pub device-grows : (R : Rule) (P P' : ℕ → Value → Type 0) (L L' : Logs) (d : ℕ) (v : Device)
    → ((b : ℕ) (x : Value) → P b x → P' b x) → Grows L L'
    → ((w a : ℕ) (x : Value) → Wrote L' w (ballot_of a d) x → Wrote L w (ballot_of a d) x)
    → DeviceOk R P L d v → DeviceOk R P' L' d v
device-grows R P P' L L' d v more g old h =
    record {
      wide = h.wide;
      slots = λ k. slot_grows _ _ _ (L k) (L' k) (g k).0 (slot_at v k) (g k).1 (h.slots k);
      used = λ w a x q. h.used w a x (old w a x q);
      mine = λ w x q. h.mine w x (old w v.attempt x q);
      safe = λ e. safe-grows L L' g R _ _ _ (h.safe e);
      promised = λ e. promised-quorum-grows L L' g R _ _ (h.promised e);
      carried = λ e. more _ _ (h.carried e);
      proposed = λ e. more _ _ (h.proposed e);
      started = h.started;
      not_last = h.not_last;
      outside = h.outside;
    }

-- an idle device that has read nothing
ok-idle : (R : Rule) (P : ℕ → Value → Type 0) (L : Logs) (d : ℕ) (v : Device) → v.phase ≡ Idle → v.slots ≡ replicate 7 fresh
    → ((w a : ℕ) (x : Value) → Wrote L w (ballot_of a d) x → a ≤ v.attempt) → (v.joined ≡ false → (v.attempt ≡ 0) × (v.known ≡ 0))
    → DeviceOk R P L d v
ok-idle R P L d v idle clear used outside =
    record {
      wide = ap length clear;
      slots = λ k.
          subst (SlotOk _ _ v.phase (L k)) (sym (ap (λ ss. get_or ss k fresh) clear ∙ get_or-same 7 k fresh)) (slot-fresh _ _ v.phase (L k));
      used = used;
      mine = λ w x q o. absurd (closed o);
      safe = λ o. absurd (silent o);
      promised = λ o. absurd (silent o);
      carried = λ o. absurd (silent o);
      proposed = λ o. absurd (closed o);
      started = λ o. absurd (closed o);
      not_last = λ o. absurd (closed o);
      outside = λ j. ((outside j).0, (outside j).1, ap is_open idle);
    }
  where
    closed : is_open v.phase ≡ true → ⊥
    closed o = false≢true (sym (ap is_open idle) ∙ o)

    silent : is_accepting v.phase ≡ true → ⊥
    silent o = false≢true (sym (ap is_accepting idle) ∙ o)

-- a device that has used no attempt
pub ok-new : (R : Rule) (P : ℕ → Value → Type 0) (L : Logs) (d : ℕ) (joined : Bool) → ((w a : ℕ) (x : Value) → Wrote L w (ballot_of a d) x → a ≤ 0)
    → DeviceOk R P L d (new_device joined)
ok-new R P L d joined unused = ok-idle R P L d (new_device joined) refl refl unused (λ _. (refl, refl))

module _ (R : Rule) (lawful : Lawful R) (P : ℕ → Value → Type 0) (L : Logs) (d : ℕ) (v : Device) (h : DeviceOk R P L d v) where
  pub ok-join : v.joined ≡ false → DeviceOk R P L d (new_device true)
  ok-join e = ok-new R P L d true (λ w a x q. omega (arith, h.used w a x q, (h.outside e).0))

  pub ok-holding : (n : ℕ) (x : Value) → v.joined ≡ true → DeviceOk R P L d (holding v n x)
  ok-holding n x j = ok-idle R P L d (holding v n x) refl refl h.used (λ o. absurd (false≢true (sym o ∙ j)))

  pub ok-link : (k : ℕ) (l : Link) → DeviceOk R P L d (with_link v k l)
  ok-link k l =
      record {
        wide = h.wide;
        slots = h.slots;
        used = h.used;
        mine = h.mine;
        safe = h.safe;
        promised = h.promised;
        carried = h.carried;
        proposed = h.proposed;
        started = h.started;
        not_last = h.not_last;
        outside = h.outside;
      }

  -- one slot is another, that says the same
  pub ok-slot : (j : ℕ) (s : Slot) (seen : ℕ) → j < R.size → SlotOk (next_version v) (own_ballot d v) v.phase (L j) s
      → DeviceOk R P L d (with_slot v j s seen)
  ok-slot j s seen l ok =
      record {
        wide = length-set v.slots j s ∙ h.wide;
        slots =
            placed fresh (λ i q. SlotOk (next_version v) (own_ballot d v) v.phase (L i) q) v.slots j s
            (omega (arith, lawful.few, h.wide, l)) ok h.slots;
        used = h.used;
        mine = h.mine;
        safe = h.safe;
        promised = h.promised;
        carried = h.carried;
        proposed = h.proposed;
        started = h.started;
        not_last = h.not_last;
        outside = h.outside;
      }

  pub ok-caught-up : (k : ℕ) → k < R.size → DeviceOk R P L d (caught_up d v k (L k))
  ok-caught-up k l = ok-slot k _ _ l (slot-after d k v (L k) (h.slots k))

  pub ok-opened : (x : Value) → v.joined ≡ true → (v.known ≡ last_version → ⊥) → P v.known x → DeviceOk R P L d (opened v x)
  ok-opened x j last new =
      record {
        wide = length-map v.slots unmarked ∙ h.wide;
        slots =
            mapped fresh (λ i q. SlotOk (next_version v) (ballot_of (next_attempt v) d) Preparing (L i) q) unmarked v.slots refl
            (λ k. slot-unmarked _ _ _ _ _ (L k) (slot_at v k) (h.slots k));
        used = λ w a y q. omega (arith, h.used w a y q);
        mine = λ w y q o. let z : ⊥ = omega (arith, h.used w (next_attempt v) y q) in absurd z;
        safe = λ o. absurd (false≢true o);
        promised = λ o. absurd (false≢true o);
        carried = λ o. absurd (false≢true o);
        proposed = λ o. new;
        started = λ o. omega arith;
        not_last = λ o. last;
        outside = λ o. absurd (false≢true (sym o ∙ j));
      }
