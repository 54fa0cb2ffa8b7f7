-- The law that a round ends: from any point at which a device is ready, its round answers the open proposal.
use Rattle.std.proofs.Common.{◌≡◌, ℕ, zero, suc, ◌+◌, ◌*◌, ◌<◌, ◌≤◌, true, false, eqb, List, ◌∷◌, ◌++◌, map, length, sym, refl, ap, ◌∙◌, subst, inl, inr, ⊎_elim, arith, length-append, get_or-set_same}
use lib.ListN.{length-map}
use Rattle.std.proofs.lemmas.List.{get_or_past, get_or_append_left}
use Rattle.std.proofs.lemmas.Bool.{cases_lt, cases_Bool, false≢true, eq-eqb}
use Rattle.record.specs.Entry.{ballot_of}
use Rattle.record.specs.declared.value.Value.{Value}
use Rattle.quorum.specs.Rules.{Set, Rule, Lawful}
use Rattle.account.specs.Books.{Book}
use Rattle.protocol.specs.Device.{last_attempt, Device, is_open, is_preparing, next_attempt, fresh, slot_at, new_device, unmarked, opened}
use Rattle.protocol.specs.Deciding.{own_marks, promising}
use Rattle.protocol.specs.State.{State, book_at, device_at, put_device}
use Rattle.protocol.specs.Runs.{New, step, runs, call_at, after, said}
use Rattle.protocol.specs.Chain.{Opens, Closes, Answered, OneOrderFrom}
use Rattle.protocol.specs.Rounds.{Has, Names, members, Orders, Orderly, read_each, send_each, round, A-round-ends, RoundEndsFrom}
use Rattle.protocol.specs.declared.answer.Answer.{Answer}
use Rattle.protocol.specs.declared.answer.Answer.TheVariants.{Attempt}
use Rattle.protocol.specs.declared.call.Call.{Call}
use Rattle.protocol.specs.declared.call.Call.TheVariants.{Send, Read, Again, Known}
use Rattle.protocol.specs.declared.link.Link.{Link}
use Rattle.protocol.specs.declared.slot.Slot.{Slot}
use Rattle.protocol.proofs.Attempts.{Spare, Unspent, unspent-new, unspent-step}
use Rattle.protocol.proofs.Counting.{names-count}
use Rattle.protocol.proofs.Effects.{effect}
use Rattle.protocol.proofs.History.{one-order}
use Rattle.protocol.proofs.Invariant.{Inv, inv-more, inv-step}
use Rattle.protocol.proofs.Lists.{get_or-mapped}
use Rattle.protocol.proofs.Passes.{Hits, hits-left, hits-right, hits_at, pass}
use Rattle.protocol.proofs.Phases.{open-cases, preparing-open, not-both}
use Rattle.protocol.proofs.Reaching.{Any, Present, again-runs}
use Rattle.protocol.proofs.Running.{call-left, call-right, after-left, said-left}
use Rattle.protocol.proofs.Stages.{At, Common, HasRoom, UpToDate, Lasts₁, pass₁, ToPrepare, PrepareUnread, Lasts₂, pass₂, Lasts₃, Promises, pass₃}
use Rattle.protocol.proofs.Stages.{ToAccept, AcceptUnread, Lasts₄, pass₄, Owns, pass₅}
use Rattle.protocol.proofs.Tallies.{marked-slot}
use Rattle.protocol.proofs.Tracks.{Proposed, inv_at, effect-at, track-at}
use Rattle.protocol.proofs.Turns.{calm-minor}

-- after the first t calls nobody has the last attempt
unspent-at : (R : Rule) (lawful : Lawful R) (s : State) → New R s → (cs : List Call) (t : ℕ)
    → ((j : ℕ) → j < t → said R s cs j ≡ Attempt last_attempt → ⊥) → Unspent (after R s cs t)
unfolding after
unspent-at R lawful s new cs zero f = unspent-new R s new
unspent-at R lawful s new cs (suc t) f =
    unspent-step R lawful (Proposed R s cs t) (after R s cs t) (inv_at R s cs lawful new t) (unspent-at R lawful s new cs t (λ j l. f j (omega arith)))
    (call_at cs t) _ _ (λ q. f t (omega arith) q) (effect-at R s cs lawful new t)

-- some account of a quorum
member : (R : Rule) → Lawful R → (S : Set) → R.is_quorum S ≡ true → (k : ℕ) × (k < R.size) × (S k ≡ true)
member R lawful S q = let k = lawful.share S S q q in (k.0, k.1, k.2)

-- from list to list of the same set
across : (R : Rule) (S : Set) (P : ℕ → Type 0) (xs ys : List ℕ) → Names R S xs → Names R S ys → ((j : ℕ) → Has j xs → P j) → (j : ℕ) → Has j ys → P j
across R S P xs ys nx ny h j q = let m = ny.only j q in h j (nx.each j m.0 m.1)

-- the passes from the second on: device d has attempt A, holds version K, and has the links Λ
module _ (R : Rule) (lawful : Lawful R) (d : ℕ) (S : Set) (quorum : R.is_quorum S ≡ true) (A K : ℕ) (Λ : List Link) where
  abbrev AtAll : (Book → Slot → Type 0) → State → List ℕ → Type 0
  AtAll P s ks = (j : ℕ) → Has j ks → At R lawful d A K Λ P s j

  wide : (s : State) → Common R lawful d A K Λ s → (k : ℕ) → k < R.size → k < length (device_at s d).slots
  wide s c k l = omega (arith, (c.inv.devices d c.present.low).wide, lawful.few, l)

  -- the fifth pass decides: else all of the quorum would have the own mark
  fifth : (s : State) (ks : List ℕ) → Names R S ks → Lasts₄ R lawful d A K Λ s → AtAll (AcceptUnread R lawful d A K Λ) s ks → Hits R d s (read_each d ks)
  fifth s ks n c b =
      ⊎_elim (λ h. h)
      (λ r.
      let end = (runs R s (read_each d ks)).1 in
      let own = λ (k : ℕ) (l : k < R.size) (e : S k ≡ true). r.1.did k (n.each k l e) in
      let m = member R lawful S quorum in
      absurd (false≢true (sym (own m.0 m.1 m.2).1
      ∙ lawful.wider S (own_marks (device_at end d).slots)
      (λ k l e. marked-slot (λ x. x.own) (device_at end d).slots k (wide end r.1.lasts.common k l) ∙ (own k l e).0.2) quorum)))
      (pass R d (λ k. Read d k) (Lasts₄ R lawful d A K Λ) _ (Owns R lawful d A K Λ) (pass₅ R lawful d A K Λ) ks s n.once c b)

  fourth : (s : State) (ks ls : List ℕ) → Names R S ks → Names R S ls → Lasts₄ R lawful d A K Λ s → AtAll (ToAccept R lawful d A K Λ) s ks
      → Hits R d s (send_each d ks ++ read_each d ls)
  fourth s ks ls n m c b =
      ⊎_elim (hits-left R d s _ _)
      (λ r. hits-right R d s _ _ r.0 (fifth _ ls m r.1.lasts (across R S _ ks ls n m r.1.did)))
      (pass R d (λ k. Send d k) (Lasts₄ R lawful d A K Λ) _ (At R lawful d A K Λ (AcceptUnread R lawful d A K Λ)) (pass₄ R lawful d A K Λ) ks s n.once c b)

  -- once all of the quorum has promised its ballot, the device is accepting
  accepts : (s : State) → Lasts₃ R lawful d A K Λ s → ((k : ℕ) → k < R.size → S k ≡ true → Promises R lawful d A K Λ s k) → Lasts₄ R lawful d A K Λ s
  accepts s c h =
      record {
        common = c.common;
        low = c.low;
        accepting =
            ⊎_elim
            (λ p.
            let m = member R lawful S quorum in
            absurd (false≢true (sym ((h m.0 m.1 m.2).1 p)
            ∙ lawful.wider S (promising (ballot_of A d) (device_at s d).slots)
            (λ k l e. marked-slot (λ x. eqb x.view.promised _) (device_at s d).slots k (wide s c.common k l) ∙ eq-eqb _ _ (h k l e).0.2.promised) quorum)))
            (λ a. a)
            (open-cases (device_at s d).phase c.isopen);
      }

  third : (s : State) (js ks ls : List ℕ) → Names R S js → Names R S ks → Names R S ls → Lasts₃ R lawful d A K Λ s → AtAll (PrepareUnread R lawful d A K Λ) s js
      → Hits R d s (read_each d js ++ (send_each d ks ++ read_each d ls))
  third s js ks ls nj nk nl c b =
      ⊎_elim (hits-left R d s _ _)
      (λ r.
      let c₄ = accepts _ r.1.lasts (λ k l e. r.1.did k (nj.each k l e)) in
      hits-right R d s _ _ r.0
      (fourth _ ks ls nk nl c₄
      (λ j q.
      let m = nk.only j q in
      let z = (r.1.did j (nj.each j m.0 m.1)).0 in (
        z.0,
        z.1,
        record { room = z.2.room; place = z.2.place; promised = z.2.promised; sent = r.1.lasts.unsent c₄.accepting j },
      ))))
      (pass R d (λ k. Read d k) (Lasts₃ R lawful d A K Λ) _ (Promises R lawful d A K Λ) (pass₃ R lawful d A K Λ) js s nj.once c b)

  second : (s : State) (hs js ks ls : List ℕ) → Names R S hs → Names R S js → Names R S ks → Names R S ls → Lasts₂ R lawful d A K Λ s
      → AtAll (ToPrepare R lawful d A K Λ) s hs → Hits R d s (send_each d hs ++ (read_each d js ++ (send_each d ks ++ read_each d ls)))
  second s hs js ks ls nh nj nk nl c b =
      ⊎_elim (hits-left R d s _ _)
      (λ r. hits-right R d s _ _ r.0
      (third _ js ks ls nj nk nl
      (record {
        common = r.1.lasts.common;
        isopen = preparing-open _ r.1.lasts.preparing;
        low = r.1.lasts.low;
        unsent = λ a. absurd (not-both _ r.1.lasts.preparing a);
      })
      (across R S _ hs js nh nj r.1.did)))
      (pass R d (λ k. Send d k) (Lasts₂ R lawful d A K Λ) _ (At R lawful d A K Λ (PrepareUnread R lawful d A K Λ)) (pass₂ R lawful d A K Λ) hs s nh.once c b)

-- again, once all that the quorum holds was read: a new attempt, above every promise read
module _ (R : Rule) (lawful : Lawful R) (d A K : ℕ) (Λ : List Link) (s : State) (c : Lasts₁ R lawful d A K Λ s) where
  abbrev A' : ℕ
  A' = next_attempt (device_at s d)

  abbrev s' : State
  s' = (step R s (Again d)).1

  spare : Spare (device_at s d)
  spare = c.unspent.devices d c.common.present.low

  again-is : step R s (Again d) ≡ (Attempt A', put_device s d (opened (device_at s d) (device_at s d).proposed))
  again-is = again-runs R s d c.common.present c.isopen (omega (arith, spare.attempt, spare.seen))

  device-is : device_at s' d ≡ opened (device_at s d) (device_at s d).proposed
  device-is =
      ap (λ (z : Answer × State). device_at z.1 d) again-is
      ∙ get_or-set_same s.devices d _ (new_device false) (omega (arith, c.common.inv.sixteen, c.common.present.low))

  slot_is : (j : ℕ) → slot_at (device_at s' d) j ≡ unmarked (slot_at (device_at s d) j)
  slot_is j = ap (λ v. slot_at v j) device-is ∙ get_or-mapped unmarked (device_at s d).slots fresh j refl

  again-lasts : Lasts₂ R lawful d A' K Λ s'
  again-lasts =
      record {
        common =
            record {
              inv = inv-step R lawful Any s (Again d) _ _ c.common.inv (λ _ _ _ _ _ _. tt) (effect R s (omega (arith, c.common.inv.accounts)) (Again d));
              present = record { low = c.common.present.low; joined = ap (λ (v : Device). v.joined) device-is ∙ c.common.present.joined };
              attempt = ap (λ (v : Device). v.attempt) device-is;
              known = ap (λ (v : Device). v.known) device-is ∙ c.common.known;
              links = ap (λ (v : Device). v.links) device-is ∙ c.common.links;
            };
        preparing = ap (λ (v : Device). is_preparing v.phase) device-is;
        low = λ j. subst (λ (x : Slot). x.view.promised ≤ ballot_of A' d) (sym (slot_is j)) (omega (arith, spare.heard j));
      }

  again-leaves : (j : ℕ) → At R lawful d A K Λ (UpToDate R lawful d A K Λ) s j → At R lawful d A' K Λ (ToPrepare R lawful d A' K Λ) s' j
  again-leaves j h = (
    h.0,
    h.1,
    subst (ToPrepare R lawful d A' K Λ (book_at s' j)) (sym (slot_is j))
        (subst (λ (a : Book). ToPrepare R lawful d A' K Λ a (unmarked (slot_at (device_at s d) j)))
        (sym (ap (λ (z : Answer × State). book_at z.1 j) again-is)) (record { room = h.2.room; place = h.2.place; sent = refl })),
  )

-- the whole round
whole : (R : Rule) (lawful : Lawful R) (d : ℕ) (S : Set) → R.is_quorum S ≡ true → (A K : ℕ) (Λ : List Link) (s : State) (o : Orders) → Orderly R S o
    → Lasts₁ R lawful d A K Λ s → ((j : ℕ) → Has j o.first → At R lawful d A K Λ (HasRoom R lawful d A K Λ) s j) → Hits R d s (round d o)
whole R lawful d S quorum A K Λ s o n c b =
    ⊎_elim (hits-left R d s _ _)
    (λ r.
    let t = (runs R s (read_each d o.first)).1 in
    let c' = r.1.lasts in
    hits-right R d s _ _ r.0
    (inr (
      calm-minor (Again d) _ refl,
      second R lawful d S quorum (A' R lawful d A K Λ t c') K Λ _ o.second o.third o.fourth o.fifth n.second n.third n.fourth n.fifth
          (again-lasts R lawful d A K Λ t c')
          (λ j q. let m = n.second.only j q in again-leaves R lawful d A K Λ t c' j (r.1.did j (n.first.each j m.0 m.1))),
    )))
    (pass R d (λ k. Read d k) (Lasts₁ R lawful d A K Λ) _ (At R lawful d A K Λ (UpToDate R lawful d A K Λ)) (pass₁ R lawful d A K Λ) o.first s n.first.once c b)

-- a run and a longer one
module _ (R : Rule) (s : State) (xs ys : List Call) where
  opens-longer : (d i : ℕ) → i < length xs → Opens R s xs d i → Opens R s (xs ++ ys) d i
  opens-longer d i l o =
      record {
        base = o.base;
        value = o.value;
        attempt = o.attempt;
        calls = call-left R s xs ys i l ∙ o.calls;
        said = said-left R s xs ys i l ∙ o.said;
      }

  closes-shorter : (d m : ℕ) → m < length xs → Closes R s (xs ++ ys) d m → Closes R s xs d m
  closes-shorter d m l (inl o) =
      inl
      (record {
        account = o.account;
        count = o.count;
        calls = sym (call-left R s xs ys m l) ∙ o.calls;
        said = sym (said-left R s xs ys m l) ∙ o.said;
      })
  closes-shorter d m l (inr o) =
      inr (record { calls = sym (call-left R s xs ys m l) ∙ o.calls; said = sym (said-left R s xs ys m l) ∙ o.said })

-- a call past the end opens nothing
opens-within : (R : Rule) (s : State) (cs : List Call) (d i : ℕ) → Opens R s cs d i → i < length cs
opens-within R s cs d i o =
    ⊎_elim (λ l. l)
    (λ g. let p = get_or_past cs i (Known 0) g in let q = o.calls in let z : ◌≡◌ {A = ℕ} 0 1 = cc in omega arith)
    (cases_lt i (length cs))

-- a device with an open proposal is there
open-present : (R : Rule) (P : ℕ → Value → Type 0) (s : State) (d : ℕ) → Inv R P s → is_open (device_at s d).phase ≡ true → Present s d
open-present R P s d i o =
    ⊎_elim
    (λ l.
    record { low = l; joined = ⊎_elim (λ j. j) (λ j. absurd (false≢true (sym ((i.devices d l).outside j).2 ∙ o))) (cases_Bool (device_at s d).joined) })
    (λ g.
    absurd (false≢true (sym (ap (λ (v : Device). is_open v.phase) (get_or_past s.devices d (new_device false) (omega (arith, g, i.sixteen)))) ∙ o)))
    (cases_lt d 16)

-- the law that a round ends
pub a-round-ends : A-round-ends
a-round-ends R lawful s new cs d i S f o n = record { count = count; answered = answered }
  where
    now : State
    now = after R s cs (length cs)

    inv : Inv R (Proposed R s cs (length cs)) now
    inv = inv_at R s cs lawful new (length cs)

    opened-at : i < length cs
    opened-at = opens-within R s cs d i f.opened

    isopen : is_open (device_at now d).phase ≡ true
    isopen =
        ⊎_elim (λ e. e) (λ e. absurd ((track-at R s cs lawful new d (length cs)).closed e i opened-at f.opened f.still_open))
        (cases_Bool (is_open (device_at now d).phase))

    hits : Hits R d now (round d o)
    hits =
        whole R lawful d S f.quorum (device_at now d).attempt (device_at now d).known (device_at now d).links now o n
        (record {
          common =
              record {
                inv = inv-more R (Proposed R s cs (length cs)) Any now (λ _ _ _. tt) inv;
                present = open-present R (Proposed R s cs (length cs)) now d inv isopen;
                attempt = refl;
                known = refl;
                links = refl;
              };
          isopen = isopen;
          unspent = unspent-at R lawful s new cs (length cs) f.unused;
        })
        (λ j q. let m = n.first.only j q in (m.0, f.up j m.0 m.1, f.room j m.0 m.1))

    answered : (rest : List Call)
        → (j : ℕ) × (length cs ≤ j) × (j < length cs + length (round d o)) × Answered R s (cs ++ (round d o ++ rest)) d i j
    answered rest =
        let run = cs ++ (round d o ++ rest) in
        let h = hits_at R s run d (length cs) (round d o)
        (λ p l. call-right R s cs (round d o ++ rest) p ∙ get_or_append_left (round d o) rest (Known 0) p l)
        (subst (λ u. Hits R d u (round d o)) (sym (after-left R s cs (round d o ++ rest) (length cs) (omega arith))) hits) in (
          h.0,
          h.1,
          h.2,
          record {
            opened = opens-longer R s cs (round d o ++ rest) d i opened-at f.opened;
            later = omega (arith, opened-at, h.1);
            decided = h.3;
            still_open = λ m a b.
                ⊎_elim (λ l e. f.still_open m a l (closes-shorter R s cs (round d o ++ rest) d m l e)) (λ g. h.4 m g b) (cases_lt m (length cs));
          },
        )

    named : (ks : List ℕ) → Names R S ks → length ks ≡ members S R.size
    named ks h = names-count R.size R.is_quorum S ks h

    each : (g : ℕ → Call) (ks : List ℕ) (more : List Call) → length (map g ks ++ more) ≡ length ks + length more
    each g ks more = length-append (map g ks) more ∙ ap (λ l. l + length more) (length-map ks g)

    -- what follows each pass
    fourth-on : List Call
    fourth-on = send_each d o.fourth ++ read_each d o.fifth

    third-on : List Call
    third-on = read_each d o.third ++ fourth-on

    second-on : List Call
    second-on = send_each d o.second ++ third-on

    count : length (round d o) ≡ 5 * members S R.size + 1
    count =
        omega (
          arith,
          each (λ k. Read d k) o.first (Again d ∷ second-on),
          each (λ k. Send d k) o.second third-on,
          each (λ k. Read d k) o.third fourth-on,
          each (λ k. Send d k) o.fourth (read_each d o.fifth),
          length-map {B = Call} o.fifth (λ k. Read d k),
          named o.first n.first,
          named o.second n.second,
          named o.third n.third,
          named o.fourth n.fourth,
          named o.fifth n.fifth,
        )

-- both laws for a group at hand
pub one-order-from : (R : Rule) → Lawful R → (s : State) (cs : List Call) → OneOrderFrom R s cs
one-order-from R lawful s cs start new past e = one-order R lawful start new (past ++ cs)

pub round-ends-from : (R : Rule) → Lawful R → (s : State) (d : ℕ) (S : Set) (o : Orders) → Orderly R S o → RoundEndsFrom R s d S o
round-ends-from R lawful s d S o n start new past e i f = a-round-ends R lawful start new past d i S f o n
