-- The five passes of a round: what each needs of an account, what it leaves of one, and what lasts.
use Rattle.std.proofs.Common.{◌≡◌, ℕ, ◌+◌, ◌<◌, ◌≤◌, Bool, true, false, cond, ◌&&◌, eqb, ◌≢◌, ◌⊎◌, List, [], ◌∷◌, ◌++◌, length, get_or, drop, fold, sym, refl, ap, ◌∙◌, subst, inl, inr, ⊎_elim, arith}
use lib.Seq.{drop-append_seam}
use Rattle.std.proofs.lemmas.List.{length_push}
use Rattle.std.proofs.lemmas.Bool.{cases_eq, or_right, and_from}
use Rattle.std.proofs.lemmas.Bool.Decides.{nat_tests}
use Rattle.record.specs.Entry.{Entry, ballot_of, ballot}
use Rattle.record.specs.declared.kind.Kind.TheVariants.{Prepare, Accept}
use Rattle.journal.specs.Log.{is_accept, accepts, tell}
use Rattle.journal.specs.declared.view.View.{View}
use Rattle.account.specs.Books.{Book, grown}
use Rattle.quorum.specs.Rules.{Rule, Lawful}
use Rattle.protocol.specs.Device.{Device, is_open, is_preparing, is_accepting, next_version, own_ballot, link_at, slot_at, with_sent, sent_to, request}
use Rattle.protocol.specs.Reading.{noted, notes_before, notes_after, slot_after}
use Rattle.protocol.specs.Deciding.{own_marks, promising}
use Rattle.protocol.specs.State.{State, book_at, log_at, device_at}
use Rattle.protocol.specs.Runs.{step}
use Rattle.protocol.specs.declared.call.Call.{Call}
use Rattle.protocol.specs.declared.call.Call.TheVariants.{Send, Read}
use Rattle.protocol.specs.declared.link.Link.{Link}
use Rattle.protocol.specs.declared.link.Link.TheVariants.{Up}
use Rattle.protocol.specs.declared.notes.Notes.{Notes}
use Rattle.protocol.specs.declared.slot.Slot.{Slot}
use Rattle.protocol.proofs.Attempts.{Unspent, unspent-step}
use Rattle.protocol.proofs.Effects.{effect}
use Rattle.protocol.proofs.Invariant.{Inv, inv-step}
use Rattle.protocol.proofs.Passes.{Deciding, Moved}
use Rattle.protocol.proofs.Phases.{accepting-open, preparing-open, preparing-silent}
use Rattle.protocol.proofs.Reaching.{Any, Present, Reads, reads, Sends, sends-to}

-- one record more, that asks the account to promise ballot b, or to accept it
tell-prepare : (w b : ℕ) (v : View) (e : Entry) → is_accept e.kind ≡ false → e.version ≡ w → ballot e ≡ b → v.promised ≤ b → (tell w v e).promised ≡ b
unfolding tell
tell-prepare w b v e k q m l = grind (arith, nat_tests)

tell-accept : (w : ℕ) (v : View) (e : Entry) → is_accept e.kind ≡ true → (tell w v e).promised ≡ v.promised
unfolding tell
tell-accept w v e k = grind (arith, nat_tests)

accepts-own : (w b : ℕ) (v : View) (e : Entry) → is_accept e.kind ≡ true → e.version ≡ w → ballot e ≡ b → v.promised ≤ b
    → (accepts w v e && eqb (ballot e) b) ≡ true
accepts-own w b v e k q m l = grind (arith, nat_tests)

noted-own : (d : ℕ) (v : Device) (n : Notes) (e : Entry) → is_accepting v.phase ≡ true
    → (accepts (next_version v) n.view e && eqb (ballot e) (own_ballot d v)) ≡ true → (noted d v n e).own ≡ true
noted-own d v n e a q = or_right n.own _ (and_from _ _ a q)

-- what stands past the place: one record
last_one : (l old : List Entry) (e : Entry) (n : ℕ) → l ≡ old ++ e ∷ [] → n ≡ length old → drop n l ≡ e ∷ []
last_one l old e n q f = ap (λ m. drop m l) f ∙ ap (drop (length old)) q ∙ drop-append_seam old (e ∷ [])

-- device d has attempt A, holds version K, and has the links Λ
module _ (R : Rule) (lawful : Lawful R) (d A K : ℕ) (Λ : List Link) where
  abbrev b : ℕ
  b = ballot_of A d

  pub record Common (s : State) : Type 0 where
    pub inv : Inv R Any s
    pub present : Present s d
    pub attempt : (device_at s d).attempt ≡ A
    pub known : (device_at s d).known ≡ K
    pub links : (device_at s d).links ≡ Λ

  -- an account that the device reaches, its book and the device's slot of it
  abbrev pub At : (Book → Slot → Type 0) → State → ℕ → Type 0
  At P s j = (j < R.size) × (get_or Λ j Up ≡ Up) × P (book_at s j) (slot_at (device_at s d) j)

  reached : (s : State) (k : ℕ) → Common s → get_or Λ k Up ≡ Up → link_at (device_at s d) k ≡ Up
  reached s k c e = ap (λ l. get_or l k Up) c.links ∙ e

  inv-next : (s : State) (c : Call) → Inv R Any s → Inv R Any (step R s c).1
  inv-next s c i = inv-step R lawful Any s c _ _ i (λ _ _ _ _ _ _. tt) (effect R s (omega (arith, i.accounts)) c)

  moved_to : (P : Book → Slot → Type 0) (s' : State) (v : Device) (a : Book) (j : ℕ) → device_at s' d ≡ v → book_at s' j ≡ a → P a (slot_at v j)
      → P (book_at s' j) (slot_at (device_at s' d) j)
  moved_to P s' v a j e f h = subst (λ u. P (book_at s' j) (slot_at u j)) (sym e) (subst (λ x. P x (slot_at v j)) (sym f) h)

  common-read : (s : State) (k : ℕ) → Common s → Reads R s d k → Common (step R s (Read d k)).1
  common-read s k c r =
      record {
        inv = inv-next s (Read d k) c.inv;
        present = record { low = c.present.low; joined = ap (λ (v : Device). v.joined) r.is ∙ r.joined ∙ c.present.joined };
        attempt = ap (λ (v : Device). v.attempt) r.is ∙ r.attempt ∙ c.attempt;
        known = ap (λ (v : Device). v.known) r.is ∙ r.known ∙ c.known;
        links = ap (λ (v : Device). v.links) r.is ∙ r.links ∙ c.links;
      }

  common-send : (s : State) (k : ℕ) → Common s → Sends R s d k → Common (step R s (Send d k)).1
  common-send s k c r =
      record {
        inv = inv-next s (Send d k) c.inv;
        present = record { low = c.present.low; joined = ap (λ (v : Device). v.joined) r.is ∙ c.present.joined };
        attempt = ap (λ (v : Device). v.attempt) r.is ∙ c.attempt;
        known = ap (λ (v : Device). v.known) r.is ∙ c.known;
        links = ap (λ (v : Device). v.links) r.is ∙ c.links;
      }

  -- what does not look at the sent mark
  abbrev Blind : (Book → Slot → Type 0) → Type 0
  Blind P = (a : Book) (x : Slot) → (P a x → P a (with_sent x false)) × (P a (with_sent x false) → P a x)

  read-there : (P : Book → Slot → Type 0) → Blind P → (s : State) (k j : ℕ) → Reads R s d k → j ≢ k → At P s j → At P (step R s (Read d k)).1 j
  read-there P blind s k j r ne h = (
    h.0,
    h.1,
    moved_to P _ r.v' (book_at s j) j r.is (r.books j)
        ((blind _ _).1 (subst (P (book_at s j)) (sym (r.there j ne)) ((blind _ _).0 h.2))),
  )

  read_here : (P : Book → Slot → Type 0) → Blind P → (s : State) (k : ℕ) → Reads R s d k → k < R.size → get_or Λ k Up ≡ Up
      → P (book_at s k) (slot_after d (device_at s d) k (log_at s k)) → At P (step R s (Read d k)).1 k
  read_here P blind s k r l up h = (
    l,
    up,
    moved_to P _ r.v' (book_at s k) k r.is (r.books k) ((blind _ _).1 (subst (P (book_at s k)) (sym r.here) ((blind _ _).0 h))),
  )

  send-there : (P : Book → Slot → Type 0) (s : State) (k j : ℕ) → Sends R s d k → j ≢ k → At P s j → At P (step R s (Send d k)).1 j
  send-there P s k j r ne h = (
    h.0,
    h.1,
    moved_to P _ _ (book_at s j) j r.is (r.there j ne) (subst (P (book_at s j)) (sym (r.slot-there j ne)) h.2),
  )

  send-here : (P : Book → Slot → Type 0) (s : State) (k : ℕ) → Sends R s d k → k < R.size → get_or Λ k Up ≡ Up
      → P (grown (book_at s k) (request d (device_at s d))) (with_sent (slot_at (device_at s d) k) true) → At P (step R s (Send d k)).1 k
  send-here P s k r l up h = (l, up, moved_to P _ _ _ k r.is r.here (subst (P _) (sym r.slot-here) h))

  -- no promise that the device has read is above its own ballot
  abbrev pub Low : Device → Type 0
  Low v = (j : ℕ) → (slot_at v j).view.promised ≤ b

  low-send : (s : State) (k : ℕ) → Sends R s d k → Low (device_at s d) → Low (device_at (step R s (Send d k)).1 d)
  low-send s k r h j =
      subst (λ u. (slot_at u j).view.promised ≤ b) (sym r.is)
      (⊎_elim
      (λ e. subst (λ i. (slot_at (sent_to (device_at s d) k) i).view.promised ≤ b) (sym e)
      (subst (λ (x : Slot). x.view.promised ≤ b) (sym r.slot-here) (h k)))
      (λ ne. subst (λ (x : Slot). x.view.promised ≤ b) (sym (r.slot-there j ne)) (h j))
      (cases_eq j k))

  low_read : (s : State) (k : ℕ) (r : Reads R s d k) → Low (device_at s d) → (slot_after d (device_at s d) k (log_at s k)).view.promised ≤ b → Low r.v'
  low_read s k r h l j =
      ⊎_elim
      (λ e. subst (λ i. (slot_at r.v' i).view.promised ≤ b) (sym e) (subst (λ (x : Slot). x.view.promised ≤ b) (sym r.here) l))
      (λ ne. subst (λ (x : Slot). x.view.promised ≤ b) (sym (r.there j ne)) (h j))
      (cases_eq j k)

  open-read : (s : State) (k : ℕ) (r : Reads R s d k) → is_open (device_at s d).phase ≡ true → is_open (device_at (step R s (Read d k)).1 d).phase ≡ true
  open-read s k r o =
      ap (λ (v : Device). is_open v.phase) r.is ∙ ⊎_elim (λ e. ap is_open e ∙ o) (λ e. ap is_open e.1) r.phase

  -- First pass: read
  abbrev pub HasRoom : Book → Slot → Type 0
  HasRoom a x = length a.log + 2 ≤ a.maximum

  abbrev pub UpToDate : Book → Slot → Type 0
  UpToDate a x = record { room : length a.log + 2 ≤ a.maximum; place : x.place ≡ length a.log }

  pub record Lasts₁ (s : State) : Type 0 where
    pub common : Common s
    pub isopen : is_open (device_at s d).phase ≡ true
    pub unspent : Unspent s

  pub pass₁ : (s : State) (k : ℕ) → Lasts₁ s → At HasRoom s k
      → Deciding d (Read d k) (step R s (Read d k)).0 ⊎ Moved R Lasts₁ (At HasRoom) (At UpToDate) s k (Read d k)
  pass₁ s k c h =
      ⊎_elim inl
      (λ r.
      inr
      (record {
        calm = r.calm;
        lasts =
            record {
              common = common-read s k c.common r;
              isopen = open-read s k r c.isopen;
              unspent =
                  unspent-step R lawful Any s c.common.inv c.unspent (Read d k) _ _
                  (λ q. let u = r.said.2 in let z : ◌≡◌ {A = ℕ} 0 1 = cc in zero_one z)
                  (effect R s (omega (arith, c.common.inv.accounts)) (Read d k));
            };
        here = read_here UpToDate (λ a x. (λ q. q, λ q. q)) s k r h.0 h.1 (record { room = h.2; place = refl });
        before = λ j ne q. read-there HasRoom (λ a x. (λ q. q, λ q. q)) s k j r ne q;
        after = λ j ne q. read-there UpToDate (λ a x. (λ q. q, λ q. q)) s k j r ne q;
      }))
      (reads R lawful s d k c.common.inv c.common.present h.0 (reached s k c.common h.1))
    where
      zero_one : ◌≡◌ {A = ℕ} 0 1 → ⊥
      zero_one e = omega arith

  -- a record that was sent and not yet read: of the device's ballot and version, an ACCEPT exactly if t
  abbrev pub Unread : Bool → Book → Slot → Type 0
  Unread t a x =
      record {
        old : List Entry;
        new : Entry;
        log : a.log ≡ old ++ new ∷ [];
        place : x.place ≡ length old;
        kind : is_accept new.kind ≡ t;
        version : new.version ≡ K + 1;
        ballot : ballot new ≡ b;
      }

  sent-unread : (s : State) (k : ℕ) (t : Bool) → Common s → is_accepting (device_at s d).phase ≡ t → (slot_at (device_at s d) k).place ≡ length (log_at s k)
      → Unread t (grown (book_at s k) (request d (device_at s d))) (with_sent (slot_at (device_at s d) k) true)
  sent-unread s k t c e f =
      record {
        old = log_at s k;
        new = request d (device_at s d);
        log = refl;
        place = f;
        kind = kind-is (is_accepting (device_at s d).phase) ∙ e;
        version = ap (λ n. n + 1) c.known;
        ballot = ap (λ a. ballot_of a d) c.attempt;
      }
    where
      kind-is : (t : Bool) → is_accept (cond t Accept Prepare) ≡ t
      kind-is true = refl
      kind-is false = refl

  -- what the device notes as it reads that record
  read-unread : (s : State) (k : ℕ) (t : Bool) (u : Unread t (book_at s k) (slot_at (device_at s d) k))
      → notes_after d (device_at s d) k (log_at s k) ≡ noted d (device_at s d) (notes_before (device_at s d) k) u.new
  read-unread s k t u =
      ap (fold (noted d (device_at s d)) (notes_before (device_at s d) k)) (last_one (log_at s k) u.old u.new _ u.log u.place)

  version-is : (s : State) (k : ℕ) (t : Bool) → Common s → (u : Unread t (book_at s k) (slot_at (device_at s d) k)) → u.new.version ≡ next_version (device_at s d)
  version-is s k t c u = u.version ∙ ap (λ n. n + 1) (sym c.known)

  -- Second pass: send the PREPARE
  abbrev pub ToPrepare : Book → Slot → Type 0
  ToPrepare a x = record { room : length a.log + 2 ≤ a.maximum; place : x.place ≡ length a.log; sent : x.sent ≡ false }

  abbrev pub PrepareUnread : Book → Slot → Type 0
  PrepareUnread a x = record { room : length a.log + 1 ≤ a.maximum; unread : Unread false a x }

  pub record Lasts₂ (s : State) : Type 0 where
    pub common : Common s
    pub preparing : is_preparing (device_at s d).phase ≡ true
    pub low : Low (device_at s d)

  pub pass₂ : (s : State) (k : ℕ) → Lasts₂ s → At ToPrepare s k
      → Deciding d (Send d k) (step R s (Send d k)).0 ⊎ Moved R Lasts₂ (At ToPrepare) (At PrepareUnread) s k (Send d k)
  pass₂ s k c h =
      let r =
      sends-to R lawful s d k c.common.inv c.common.present h.0 (reached s k c.common h.1) (preparing-open _ c.preparing) h.2.sent
      (omega (arith, h.2.room)) in
      inr
      (record {
        calm = r.calm;
        lasts =
            record {
              common = common-send s k c.common r;
              preparing = ap (λ (v : Device). is_preparing v.phase) r.is ∙ c.preparing;
              low = low-send s k r c.low;
            };
        here =
            send-here PrepareUnread s k r h.0 h.1
            (record {
              room = omega (arith, h.2.room, length_push (log_at s k) (request d (device_at s d)));
              unread = sent-unread s k false c.common (preparing-silent _ c.preparing) h.2.place;
            });
        before = λ j ne q. send-there ToPrepare s k j r ne q;
        after = λ j ne q. send-there PrepareUnread s k j r ne q;
      })

  -- Third pass: read the promise
  abbrev pub HasPromised : Book → Slot → Type 0
  HasPromised a x = record { room : length a.log + 1 ≤ a.maximum; place : x.place ≡ length a.log; promised : x.view.promised ≡ b }

  pub record Lasts₃ (s : State) : Type 0 where
    pub common : Common s
    pub isopen : is_open (device_at s d).phase ≡ true
    pub low : Low (device_at s d)
    pub unsent : is_accepting (device_at s d).phase ≡ true → (j : ℕ) → (slot_at (device_at s d) j).sent ≡ false

  -- while the device prepares, too few have promised its ballot
  abbrev pub Unpromised : State → Type 0
  Unpromised s = is_preparing (device_at s d).phase ≡ true → R.is_quorum (promising b (device_at s d).slots) ≡ false

  abbrev pub Promises : State → ℕ → Type 0
  Promises s j = At HasPromised s j × Unpromised s

  pub pass₃ : (s : State) (k : ℕ) → Lasts₃ s → At PrepareUnread s k
      → Deciding d (Read d k) (step R s (Read d k)).0 ⊎ Moved R Lasts₃ (At PrepareUnread) Promises s k (Read d k)
  pass₃ s k c h = ⊎_elim inl (λ r. inr (moved r)) (reads R lawful s d k c.common.inv c.common.present h.0 (reached s k c.common h.1))
    where
      u : Unread false (book_at s k) (slot_at (device_at s d) k)
      u = h.2.unread

      told : (slot_after d (device_at s d) k (log_at s k)).view.promised ≡ b
      told =
          ap (λ (n : Notes). n.view.promised) (read-unread s k false u)
          ∙ tell-prepare (next_version (device_at s d)) b (slot_at (device_at s d) k).view u.new u.kind (version-is s k false c.common u) u.ballot (c.low k)

      unpromised : (r : Reads R s d k) → Unpromised (step R s (Read d k)).1
      unpromised r =
          subst (λ (v : Device). is_preparing v.phase ≡ true → R.is_quorum (promising b v.slots) ≡ false) (sym r.is)
          (subst
          (λ a. ((j : ℕ) → (slot_at r.v' j).view.promised ≤ ballot_of a d) → is_preparing r.v'.phase ≡ true
          → R.is_quorum (promising (ballot_of a d) r.v'.slots) ≡ false)
          c.common.attempt r.unpromised (low_read s k r c.low (omega (arith, told))))

      moved : Reads R s d k → Moved R Lasts₃ (At PrepareUnread) Promises s k (Read d k)
      moved r =
          record {
            calm = r.calm;
            lasts =
                record {
                  common = common-read s k c.common r;
                  isopen = open-read s k r c.isopen;
                  low = subst Low (sym r.is) (low_read s k r c.low (omega (arith, told)));
                  unsent =
                      subst (λ (v : Device). is_accepting v.phase ≡ true → (j : ℕ) → (slot_at v j).sent ≡ false) (sym r.is)
                      (λ a. ⊎_elim (λ e j. r.sent e j (c.unsent (sym (ap is_accepting e) ∙ a) j)) (λ e. e.2) r.phase);
                };
            here =
                (read_here HasPromised (λ a x. (λ q. q, λ q. q)) s k r h.0 h.1 (record { room = h.2.room; place = refl; promised = told }), unpromised r);
            before = λ j ne q. read-there PrepareUnread (λ a x. (λ q. q, λ q. q)) s k j r ne q;
            after = λ j ne q. (read-there HasPromised (λ a x. (λ q. q, λ q. q)) s k j r ne q.0, unpromised r);
          }

  -- Fourth pass: send the ACCEPT
  abbrev pub ToAccept : Book → Slot → Type 0
  ToAccept a x =
      record { room : length a.log + 1 ≤ a.maximum; place : x.place ≡ length a.log; promised : x.view.promised ≡ b; sent : x.sent ≡ false }

  abbrev pub AcceptUnread : Book → Slot → Type 0
  AcceptUnread a x = record { promised : x.view.promised ≡ b; unread : Unread true a x }

  pub record Lasts₄ (s : State) : Type 0 where
    pub common : Common s
    pub accepting : is_accepting (device_at s d).phase ≡ true
    pub low : Low (device_at s d)

  pub pass₄ : (s : State) (k : ℕ) → Lasts₄ s → At ToAccept s k
      → Deciding d (Send d k) (step R s (Send d k)).0 ⊎ Moved R Lasts₄ (At ToAccept) (At AcceptUnread) s k (Send d k)
  pass₄ s k c h =
      let r =
      sends-to R lawful s d k c.common.inv c.common.present h.0 (reached s k c.common h.1) (accepting-open _ c.accepting) h.2.sent
      (omega (arith, h.2.room)) in
      inr
      (record {
        calm = r.calm;
        lasts =
            record {
              common = common-send s k c.common r;
              accepting = ap (λ (v : Device). is_accepting v.phase) r.is ∙ c.accepting;
              low = low-send s k r c.low;
            };
        here =
            send-here AcceptUnread s k r h.0 h.1
            (record { promised = h.2.promised; unread = sent-unread s k true c.common c.accepting h.2.place });
        before = λ j ne q. send-there ToAccept s k j r ne q;
        after = λ j ne q. send-there AcceptUnread s k j r ne q;
      })

  -- Fifth pass: read that it is accepted. Too few have the own mark, or the read would have decided
  abbrev pub IsOwn : Book → Slot → Type 0
  IsOwn a x = x.own ≡ true

  abbrev pub Owns : State → ℕ → Type 0
  Owns s j = At IsOwn s j × (R.is_quorum (own_marks (device_at s d).slots) ≡ false)

  pub pass₅ : (s : State) (k : ℕ) → Lasts₄ s → At AcceptUnread s k
      → Deciding d (Read d k) (step R s (Read d k)).0 ⊎ Moved R Lasts₄ (At AcceptUnread) Owns s k (Read d k)
  pass₅ s k c h = ⊎_elim inl (λ r. inr (moved r)) (reads R lawful s d k c.common.inv c.common.present h.0 (reached s k c.common h.1))
    where
      u : Unread true (book_at s k) (slot_at (device_at s d) k)
      u = h.2.unread

      v : Device
      v = device_at s d

      low' : (slot_after d v k (log_at s k)).view.promised ≤ b
      low' =
          let e =
          ap (λ (n : Notes). n.view.promised) (read-unread s k true u)
          ∙ tell-accept (next_version v) (slot_at v k).view u.new u.kind in
          omega (arith, e, c.low k)

      own-ballot : own_ballot d v ≡ b
      own-ballot = ap (λ a. ballot_of a d) c.common.attempt

      own : (slot_after d v k (log_at s k)).own ≡ true
      own =
          ap (λ (n : Notes). n.own) (read-unread s k true u)
          ∙ noted-own d v (notes_before v k) u.new c.accepting
          (accepts-own (next_version v) (own_ballot d v) (slot_at v k).view u.new u.kind (version-is s k true c.common u)
          (u.ballot ∙ sym own-ballot) (omega (arith, c.low k, own-ballot)))

      moved : Reads R s d k → Moved R Lasts₄ (At AcceptUnread) Owns s k (Read d k)
      moved r =
          let few = subst (λ (z : Device). R.is_quorum (own_marks z.slots) ≡ false) (sym r.is) (r.unowned c.accepting) in
          record {
            calm = r.calm;
            lasts =
                record {
                  common = common-read s k c.common r;
                  accepting =
                      ap (λ (z : Device). is_accepting z.phase) r.is
                      ∙ ⊎_elim (λ e. ap is_accepting e ∙ c.accepting) (λ e. ap is_accepting e.1) r.phase;
                  low = subst Low (sym r.is) (low_read s k r c.low low');
                };
            here = (read_here IsOwn (λ a x. (λ q. q, λ q. q)) s k r h.0 h.1 own, few);
            before = λ j ne q. read-there AcceptUnread (λ a x. (λ q. q, λ q. q)) s k j r ne q;
            after = λ j ne q. (read-there IsOwn (λ a x. (λ q. q, λ q. q)) s k j r ne q.0, few);
          }
