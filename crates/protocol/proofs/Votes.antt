-- What a group's logs say together: a ballot that is blocked, a value that is chosen, a value that is safe; and that all of it stays as logs grow.
use Rattle.std.proofs.Common.{◌≡◌, ℕ, ◌+◌, ◌<◌, ◌≤◌, true, ◌⊎◌, List, [], ◌++◌, sym, ap, ◌∙◌, subst, inl, inr, ⊎_elim, arith}
use Rattle.std.proofs.lemmas.Bool.{cases_order}
use Rattle.std.proofs.lemmas.List.{append-nil}
use Rattle.record.specs.Entry.{Entry}
use Rattle.record.specs.declared.value.Value.{Value}
use Rattle.journal.specs.Log.{unread, says}
use Rattle.journal.specs.declared.view.View.{View}
use Rattle.quorum.specs.Rules.{Set, Rule, Lawful}
use Rattle.protocol.proofs.Logs.{IsAccept, IsPrepare, Mem, mem-left, Took, view-append, promised-grows, took-left, took-cases, took-promised, took-mem}

-- the logs, by account
abbrev pub Logs : Type 0
Logs = ℕ → List Entry

-- some log holds an ACCEPT of version w, ballot b and value x
abbrev pub Wrote : Logs → ℕ → ℕ → Value → Type 0
Wrote L w b x = (k : ℕ) × (e : Entry) × Mem e (L k) × IsAccept w b x e

-- log l has accepted ballot b of version w, with value x
abbrev pub Voted : List Entry → ℕ → ℕ → Value → Type 0
Voted l w b x = Took w b x unread l

pub voted-wrote : (L : Logs) (k w b : ℕ) (x : Value) → Voted (L k) w b x → Wrote L w b x
voted-wrote L k w b x t = let q = took-mem w b x unread (L k) t in (k, q.0, q.1, q.2)

-- ballot b can never be accepted by a quorum
pub record Blocked (R : Rule) (L : Logs) (w b : ℕ) : Type 0 where
  pub by : Set
  pub quorum : R.is_quorum by ≡ true
  pub past : (k : ℕ) → k < R.size → by k ≡ true → b < (says w (L k)).promised
  pub never : (k : ℕ) → k < R.size → by k ≡ true → (x : Value) → Voted (L k) w b x → ⊥

-- a quorum has accepted one ballot with the value x
pub record Chosen (R : Rule) (L : Logs) (w : ℕ) (x : Value) : Type 0 where
  pub at : ℕ
  pub by : Set
  pub quorum : R.is_quorum by ≡ true
  pub voted : (k : ℕ) → k < R.size → by k ≡ true → Voted (L k) w at x

-- a quorum holds a PREPARE of ballot b
pub record Promised (R : Rule) (L : Logs) (w b : ℕ) : Type 0 where
  pub by : Set
  pub quorum : R.is_quorum by ≡ true
  pub prepared : (k : ℕ) → k < R.size → by k ≡ true → (e : Entry) × Mem e (L k) × IsPrepare w b e

-- no ballot below b can be chosen with another value than x
abbrev pub Safe : Rule → Logs → ℕ → ℕ → Value → Type 0
Safe R L w b x = (c : ℕ) → c < b → Blocked R L w c ⊎ Wrote L w c x

-- logs only grow
abbrev pub Grows : Logs → Logs → Type 0
Grows L L' = (k : ℕ) → (more : List Entry) × (L' k ≡ L k ++ more)

pub grows_same : (L L' : Logs) → ((k : ℕ) → L' k ≡ L k) → Grows L L'
grows_same L L' e k = ([], e k ∙ sym (append-nil (L k)))

module _ (L L' : Logs) (g : Grows L L') where
  mem-grows : (k : ℕ) (e : Entry) → Mem e (L k) → Mem e (L' k)
  mem-grows k e h = subst (Mem e) (sym (g k).1) (mem-left e (L k) (g k).0 h)

  wrote-grows : (w b : ℕ) (x : Value) → Wrote L w b x → Wrote L' w b x
  wrote-grows w b x h = (h.0, h.1, mem-grows h.0 h.1 h.2, h.3)

  promised-stays : (k w : ℕ) → (says w (L k)).promised ≤ (says w (L' k)).promised
  promised-stays k w =
      let e = ap (λ l. (says w l).promised) (g k).1 ∙ ap (λ (v : View). v.promised) (view-append w unread (L k) (g k).0) in
      omega (arith, e, promised-grows w (says w (L k)) (g k).0)

  blocked-grows : (R : Rule) (w b : ℕ) → Blocked R L w b → Blocked R L' w b
  blocked-grows R w b h =
      record {
        by = h.by;
        quorum = h.quorum;
        past = λ k l e. omega (arith, h.past k l e, promised-stays k w);
        never = λ k l e x t.
            ⊎_elim (h.never k l e x)
            (λ u. let q = took-promised w b x (says w (L k)) (g k).0 u in omega (arith, h.past k l e, q))
            (took-cases w b x unread (L k) (g k).0 (subst (λ m. Voted m w b x) (g k).1 t));
      }

  pub chosen-grows : (R : Rule) (w : ℕ) (x : Value) → Chosen R L w x → Chosen R L' w x
  chosen-grows R w x c =
      record {
        at = c.at;
        by = c.by;
        quorum = c.quorum;
        voted = λ k l e.
            subst (λ m. Voted m w c.at x) (sym (g k).1) (took-left w c.at x unread (L k) (g k).0 (c.voted k l e));
      }

  pub promised-quorum-grows : (R : Rule) (w b : ℕ) → Promised R L w b → Promised R L' w b
  promised-quorum-grows R w b p =
      record {
        by = p.by;
        quorum = p.quorum;
        prepared = λ k l e. let q = p.prepared k l e in (q.0, mem-grows k q.0 q.1, q.2);
      }

  pub safe-grows : (R : Rule) (w b : ℕ) (x : Value) → Safe R L w b x → Safe R L' w b x
  safe-grows R w b x s c h = ⊎_elim (λ q. inl (blocked-grows R w c q)) (λ q. inr (wrote-grows w c x q)) (s c h)

-- What holds of the logs after any calls. P b x says that a proposal with base b and value x was opened
pub record LogsOk (R : Rule) (P : ℕ → Value → Type 0) (L : Logs) : Type 0 where
  -- whoever wrote a record has a device's number
  pub writers : (k : ℕ) (e : Entry) → Mem e (L k) → e.device < 16
  -- the ballot of an ACCEPT is not 0, was promised by a quorum, and has one value
  pub positive : (w b : ℕ) (x : Value) → Wrote L w b x → 0 < b
  pub promised : (w b : ℕ) (x : Value) → Wrote L w b x → Promised R L w b
  pub unique : (w b : ℕ) (x y : Value) → Wrote L w b x → Wrote L w b y → x ≡ y
  -- which is safe, and was proposed
  pub safe : (w b : ℕ) (x : Value) → Wrote L w b x → Safe R L w b x
  pub proposed : (w b : ℕ) (x : Value) → Wrote L w b x → (base : ℕ) × (w ≡ base + 1) × P base x

module _ (R : Rule) (lawful : Lawful R) (L : Logs) (w : ℕ) where
  -- a blocked ballot is not chosen
  blocked-unchosen : (x : Value) (c : Chosen R L w x) → Blocked R L w c.at → ⊥
  blocked-unchosen x c b =
      let k = lawful.share c.by b.by c.quorum b.quorum in
      b.never k.0 k.1 k.3 x (c.voted k.0 k.1 k.2)

  -- a chosen value was written
  pub chosen-wrote : (x : Value) (c : Chosen R L w x) → Wrote L w c.at x
  chosen-wrote x c =
      let k = lawful.share c.by c.by c.quorum c.quorum in
      voted-wrote L k.0 w c.at x (c.voted k.0 k.1 k.2)

  module _ (P : ℕ → Value → Type 0) (ok : LogsOk R P L) where
    in_order : (x y : Value) (c : Chosen R L w x) (c' : Chosen R L w y) → c.at < c'.at → x ≡ y
    in_order x y c c' h =
        ⊎_elim (λ b. absurd (blocked-unchosen x c b))
        (λ q. ok.unique w c.at x y (chosen-wrote x c) q)
        (ok.safe w c'.at y (chosen-wrote y c') c.at h)

    -- two chosen values of one version are the same
    pub agreement : (x y : Value) → Chosen R L w x → Chosen R L w y → x ≡ y
    agreement x y c c' =
        ⊎_elim
        (λ e. ok.unique w c'.at x y (subst (λ b. Wrote L w b x) e (chosen-wrote x c)) (chosen-wrote y c'))
        (λ d. ⊎_elim (λ h. in_order x y c c' h) (λ h. sym (in_order y x c' c h)) d)
        (cases_order c.at c'.at)
