-- A list of one device's calls, one for each of some accounts: either one of them decides, or none opens, decides or restarts anything, and
-- each did its work.
use Rattle.std.proofs.Common.{◌≡◌, ℕ, suc, ◌+◌, ◌<◌, ◌≤◌, ◌≢◌, ◌⊎◌, List, [], ◌∷◌, ◌++◌, map, length, get_or, sym, refl, ap, ◌∙◌, subst, inl, inr, ⊎_elim, arith}
use Rattle.std.proofs.lemmas.Bool.{cases_eq}
use Rattle.quorum.specs.Rules.{Rule}
use Rattle.protocol.specs.State.{State}
use Rattle.protocol.specs.Runs.{step, runs, call_at, after, said}
use Rattle.protocol.specs.Chain.{Decides, Closes}
use Rattle.protocol.specs.Rounds.{Has, Once}
use Rattle.protocol.specs.declared.answer.Answer.{Answer}
use Rattle.protocol.specs.declared.answer.Answer.TheVariants.{Taken}
use Rattle.protocol.specs.declared.call.Call.{Call}
use Rattle.protocol.specs.declared.call.Call.TheVariants.{Read, Known}
use Rattle.protocol.specs.declared.outcome.Outcome.TheVariants.{Decided}
use Rattle.protocol.proofs.Tracks.{after_next, said-is, calm-closes}
use Rattle.protocol.proofs.Turns.{Calm}

-- a read of device d's that decides
abbrev pub Deciding : ℕ → Call → Answer → Type 0
Deciding d c a = (k : ℕ) × (n : ℕ) × (c ≡ Read d k) × (a ≡ Taken n Decided)

-- one of the calls decides a version, and before it nothing happens
abbrev pub Hits : Rule → ℕ → State → List Call → Type 0
Hits R d s [] = ⊥
Hits R d s (c ∷ cs) = Deciding d c (step R s c).0 ⊎ (Calm c (step R s c).0 × Hits R d (step R s c).1 cs)

abbrev pub Calms : Rule → State → List Call → Type 0
Calms R s [] = Unit {0}
Calms R s (c ∷ cs) = Calm c (step R s c).0 × Calms R (step R s c).1 cs

pub hits-left : (R : Rule) (d : ℕ) (s : State) (xs ys : List Call) → Hits R d s xs → Hits R d s (xs ++ ys)
hits-left R d s [] ys h = absurd h
hits-left R d s (x ∷ xs) ys (inl h) = inl h
hits-left R d s (x ∷ xs) ys (inr h) = inr (h.0, hits-left R d (step R s x).1 xs ys h.1)

pub hits-right : (R : Rule) (d : ℕ) (s : State) (xs ys : List Call) → Calms R s xs → Hits R d (runs R s xs).1 ys → Hits R d s (xs ++ ys)
unfolding runs
hits-right R d s [] ys c h = h
hits-right R d s (x ∷ xs) ys c h = inr (c.0, hits-right R d (step R s x).1 xs ys c.1 h)

-- where the calls xs follow call t of a run, one of them decides, and nothing closes between
pub hits_at : (R : Rule) (s : State) (cs : List Call) (d t : ℕ) (xs : List Call)
    → ((p : ℕ) → p < length xs → call_at cs (t + p) ≡ get_or xs p (Known 0)) → Hits R d (after R s cs t) xs
    → (j : ℕ) × (t ≤ j) × (j < t + length xs) × Decides R s cs d j × ((m : ℕ) → t ≤ m → m < j → Closes R s cs d m → ⊥)
hits_at R s cs d t [] f h = absurd h
hits_at R s cs d t (x ∷ xs) f (inl h) = (
  t,
  omega arith,
  omega arith,
  record { account = h.0; count = h.1; calls = first ∙ h.2; said = said-is R s cs t ∙ ap (λ c. (step R (after R s cs t) c).0) first ∙ h.3 },
  λ m a b. let z : ⊥ = omega arith in absurd z,
)
  where
    first : call_at cs t ≡ x
    first = subst (λ n. call_at cs n ≡ x) (omega arith) (f 0 (omega arith))
hits_at R s cs d t (x ∷ xs) f (inr h) =
    let r = hits_at R s cs d (suc t) xs
    (λ p l. subst (λ n. call_at cs n ≡ get_or xs p (Known 0)) (omega arith) (f (suc p) (omega arith)))
    (subst (λ u. Hits R d u xs) (sym (after_next R s cs t ∙ ap (λ c. (step R (after R s cs t) c).1) first)) h.1) in (
      r.0,
      omega (arith, r.1),
      omega (arith, r.2),
      r.3,
      λ m a b e.
          ⊎_elim (λ q. calm-closes R s cs t quiet d (subst (Closes R s cs d) q e)) (λ ne. r.4 m (omega arith) b e) (cases_eq m t),
    )
  where
    first : call_at cs t ≡ x
    first = subst (λ n. call_at cs n ≡ x) (omega arith) (f 0 (omega arith))

    quiet : Calm (call_at cs t) (said R s cs t)
    quiet =
        subst (Calm (call_at cs t)) (sym (said-is R s cs t)) (subst (λ c. Calm c (step R (after R s cs t) c).0) (sym first) h.0)

-- the work of one call at account k: Needs is what it needs of an account, Leaves what it leaves of one, Lasts what lasts
pub record Moved (R : Rule) (Lasts : State → Type 0) (Needs Leaves : State → ℕ → Type 0) (s : State) (k : ℕ) (c : Call) : Type 0 where
  pub calm : Calm c (step R s c).0
  pub lasts : Lasts (step R s c).1
  pub here : Leaves (step R s c).1 k
  pub before : (j : ℕ) → j ≢ k → Needs s j → Needs (step R s c).1 j
  pub after : (j : ℕ) → j ≢ k → Leaves s j → Leaves (step R s c).1 j

module _ (R : Rule) (d : ℕ) (f : ℕ → Call) (Lasts : State → Type 0) (Needs Leaves : State → ℕ → Type 0)
    (go : (s : State) (k : ℕ) → Lasts s → Needs s k → Deciding d (f k) (step R s (f k)).0 ⊎ Moved R Lasts Needs Leaves s k (f k)) where
  pub record Passed (s s' : State) (ks : List ℕ) : Type 0 where
    pub lasts : Lasts s'
    pub did : (j : ℕ) → Has j ks → Leaves s' j
    pub kept : (j : ℕ) → (Has j ks → ⊥) → Leaves s j → Leaves s' j

  pub pass : (ks : List ℕ) (s : State) → Once ks → Lasts s → ((j : ℕ) → Has j ks → Needs s j)
      → Hits R d s (map f ks) ⊎ (Calms R s (map f ks) × Passed s (runs R s (map f ks)).1 ks)
  unfolding runs
  pass [] s o c b = inr (tt, record { lasts = c; did = λ j h. absurd h; kept = λ j _ a. a })
  pass (k ∷ ks) s o c b =
      ⊎_elim
      (λ h. inl (inl h))
      (λ m.
      ⊎_elim
      (λ h. inl (inr (m.calm, h)))
      (λ r.
      inr (
        (m.calm, r.0),
        record {
          lasts = r.1.lasts;
          did = λ j h. ⊎_elim (λ e. subst (Leaves (runs R s (map f (k ∷ ks))).1) (sym e) (r.1.kept k o.0 m.here)) (r.1.did j) h;
          kept = λ j no' a. r.1.kept j (λ h. no' (inr h)) (m.after j (λ e. no' (inl e)) a);
        },
      ))
      (pass ks (step R s (f k)).1 o.1 m.lasts (λ j h. m.before j (λ e. o.0 (subst (λ i. Has i ks) e h)) (b j (inr h)))))
      (go s k c (b k (inl refl)))
