-- Laws of what a log says about one version. Assumes nothing.
use Rattle.std.proofs.Common.{◌≡◌, ℕ, ◌≤◌, true, false, ◌&&◌, eqb, leb, ◌⊎◌, List, [], ◌∷◌, ◌++◌, sym, refl, ◌∙◌, inl, inr, ⊎_elim, arith}
use Rattle.std.proofs.lemmas.Bool.Decides.{nat_tests}
use Rattle.std.proofs.lemmas.Bool.{cond_both, cases_lt}
use Rattle.record.specs.Entry.{Entry, ballot}
use Rattle.record.specs.declared.value.Value.{Value}
use Rattle.journal.specs.Log.{is_accept, accepts, promises, tell, view}
use Rattle.journal.specs.declared.view.View.{View}

-- an ACCEPT of version w, ballot b and value x
pub record IsAccept (w b : ℕ) (x : Value) (e : Entry) : Type 0 where
  pub kind : is_accept e.kind ≡ true
  pub version : e.version ≡ w
  pub ballot : ballot e ≡ b
  pub value : e.value ≡ x

-- a PREPARE of version w and ballot b
pub record IsPrepare (w b : ℕ) (e : Entry) : Type 0 where
  pub kind : is_accept e.kind ≡ false
  pub version : e.version ≡ w
  pub ballot : ballot e ≡ b

-- a record of the list
unfoldable pub Mem : Entry → List Entry → Type 0
Mem e [] = ⊥
Mem e (f ∷ fs) = (e ≡ f) ⊎ Mem e fs

pub mem-left : (e : Entry) (xs ys : List Entry) → Mem e xs → Mem e (xs ++ ys)
unfolding Mem
mem-left e [] ys h = absurd h
mem-left e (x ∷ xs) ys (inl q) = inl q
mem-left e (x ∷ xs) ys (inr h) = inr (mem-left e xs ys h)

pub mem-right : (e : Entry) (xs ys : List Entry) → Mem e ys → Mem e (xs ++ ys)
unfolding Mem
mem-right e [] ys h = h
mem-right e (x ∷ xs) ys h = inr (mem-right e xs ys h)

pub mem-cases : (e : Entry) (xs ys : List Entry) → Mem e (xs ++ ys) → Mem e xs ⊎ Mem e ys
unfolding Mem
mem-cases e [] ys h = inr h
mem-cases e (x ∷ xs) ys (inl q) = inl (inl q)
mem-cases e (x ∷ xs) ys (inr h) = ⊎_elim (λ u. inl (inr u)) inr (mem-cases e xs ys h)

pub mem-one : (e f : Entry) → Mem e (f ∷ []) → e ≡ f
unfolding Mem
mem-one e f (inl q) = q
mem-one e f (inr h) = absurd h

-- among the records that follow v, an ACCEPT of version w, ballot b and value x is accepted
unfoldable pub Took : ℕ → ℕ → Value → View → List Entry → Type 0
Took w b x v [] = ⊥
Took w b x v (e ∷ es) = (IsAccept w b x e × (v.promised ≤ b)) ⊎ Took w b x (tell w v e) es

-- one record
tell-promised : (w : ℕ) (v : View) (e : Entry) → v.promised ≤ (tell w v e).promised
unfolding tell
tell-promised w v e = grind (arith, nat_tests)

tell-accepted : (w : ℕ) (v : View) (e : Entry) → v.accepted ≤ (tell w v e).accepted
unfolding tell
tell-accepted w v e = grind (arith, nat_tests)

tell-took : (w b : ℕ) (x : Value) (v : View) (e : Entry) → IsAccept w b x e → v.promised ≤ b → b ≤ (tell w v e).accepted
unfolding tell
tell-took w b x v e a h = grind (arith, nat_tests)

-- the highest accepted ballot and its value are the record's, or as before
tell-cases : (w : ℕ) (v : View) (e : Entry)
    → (IsAccept w (tell w v e).accepted (tell w v e).value e × (v.promised ≤ (tell w v e).accepted))
    ⊎ (((tell w v e).accepted ≡ v.accepted) × ((tell w v e).value ≡ v.value))
unfolding tell
tell-cases w v e =
    cond_both (accepts w v e && leb v.accepted (ballot e)) _ _ Case
    (λ t. inl (record { kind = grind (arith, nat_tests); version = grind (arith, nat_tests); ballot = refl; value = refl }, grind (arith, nat_tests)))
    (λ _. cond_both (promises w e) _ _ Case (λ _. inr (refl, refl)) (λ _. inr (refl, refl)))
  where
    Case : View → Type 0
    Case u = (IsAccept w u.accepted u.value e × (v.promised ≤ u.accepted)) ⊎ ((u.accepted ≡ v.accepted) × (u.value ≡ v.value))

-- so is the promised one
tell-promises : (w : ℕ) (v : View) (e : Entry) → IsPrepare w (tell w v e).promised e ⊎ ((tell w v e).promised ≡ v.promised)
unfolding tell
tell-promises w v e =
    cond_both (accepts w v e && leb v.accepted (ballot e)) _ _ Case (λ _. inr refl)
    (λ _. cond_both (promises w e) _ _ Case
    (λ t. ⊎_elim
    (λ l. inl (record { kind = grind (arith, nat_tests); version = grind (arith, nat_tests); ballot = grind (arith, nat_tests) }))
    (λ g. inr (grind (arith, nat_tests)))
    (cases_lt v.promised (ballot e)))
    (λ _. inr refl))
  where
    Case : View → Type 0
    Case u = IsPrepare w u.promised e ⊎ (u.promised ≡ v.promised)

-- many records
pub view-append : (w : ℕ) (v : View) (xs ys : List Entry) → view w v (xs ++ ys) ≡ view w (view w v xs) ys
unfolding view
view-append w v [] ys = refl
view-append w v (e ∷ xs) ys = view-append w (tell w v e) xs ys

pub promised-grows : (w : ℕ) (v : View) (es : List Entry) → v.promised ≤ (view w v es).promised
unfolding view
promised-grows w v [] = omega arith
promised-grows w v (e ∷ es) = omega (arith, tell-promised w v e, promised-grows w (tell w v e) es)

accepted-grows : (w : ℕ) (v : View) (es : List Entry) → v.accepted ≤ (view w v es).accepted
unfolding view
accepted-grows w v [] = omega arith
accepted-grows w v (e ∷ es) = omega (arith, tell-accepted w v e, accepted-grows w (tell w v e) es)

pub took-left : (w b : ℕ) (x : Value) (v : View) (xs ys : List Entry) → Took w b x v xs → Took w b x v (xs ++ ys)
unfolding Took
took-left w b x v [] ys t = absurd t
took-left w b x v (e ∷ xs) ys (inl a) = inl a
took-left w b x v (e ∷ xs) ys (inr t) = inr (took-left w b x (tell w v e) xs ys t)

pub took-right : (w b : ℕ) (x : Value) (v : View) (xs ys : List Entry) → Took w b x (view w v xs) ys → Took w b x v (xs ++ ys)
unfolding Took view
took-right w b x v [] ys t = t
took-right w b x v (e ∷ xs) ys t = inr (took-right w b x (tell w v e) xs ys t)

pub took-cases : (w b : ℕ) (x : Value) (v : View) (xs ys : List Entry) → Took w b x v (xs ++ ys) → Took w b x v xs ⊎ Took w b x (view w v xs) ys
unfolding Took view
took-cases w b x v [] ys t = inr t
took-cases w b x v (e ∷ xs) ys (inl a) = inl (inl a)
took-cases w b x v (e ∷ xs) ys (inr t) = ⊎_elim (λ u. inl (inr u)) inr (took-cases w b x (tell w v e) xs ys t)

-- what is accepted is not below what was promised before
pub took-promised : (w b : ℕ) (x : Value) (v : View) (es : List Entry) → Took w b x v es → v.promised ≤ b
unfolding Took
took-promised w b x v [] t = absurd t
took-promised w b x v (e ∷ es) (inl a) = a.1
took-promised w b x v (e ∷ es) (inr t) = omega (arith, tell-promised w v e, took-promised w b x (tell w v e) es t)

-- nor above the highest accepted ballot
pub took-accepted : (w b : ℕ) (x : Value) (v : View) (es : List Entry) → Took w b x v es → b ≤ (view w v es).accepted
unfolding Took view
took-accepted w b x v [] t = absurd t
took-accepted w b x v (e ∷ es) (inl a) = omega (arith, tell-took w b x v e a.0 a.1, accepted-grows w (tell w v e) es)
took-accepted w b x v (e ∷ es) (inr t) = took-accepted w b x (tell w v e) es t

-- the highest accepted ballot is as before, or was accepted with its value
pub accepted-took : (w : ℕ) (v : View) (es : List Entry)
    → Took w (view w v es).accepted (view w v es).value v es ⊎ (((view w v es).accepted ≡ v.accepted) × ((view w v es).value ≡ v.value))
unfolding Took view
accepted-took w v [] = inr (refl, refl)
accepted-took w v (e ∷ es) =
    ⊎_elim (λ t. inl (inr t))
    (λ q. ⊎_elim
    (λ a. inl (inl (
      record { kind = a.0.kind; version = a.0.version; ballot = a.0.ballot ∙ sym q.0; value = a.0.value ∙ sym q.1 },
      omega (arith, a.1, q.0),
    )))
    (λ f. inr (q.0 ∙ f.0, q.1 ∙ f.1))
    (tell-cases w v e))
    (accepted-took w (tell w v e) es)

-- the highest promised ballot is as before, or that of a PREPARE
pub promised-from : (w : ℕ) (v : View) (es : List Entry)
    → ((e : Entry) × Mem e es × IsPrepare w (view w v es).promised e) ⊎ ((view w v es).promised ≡ v.promised)
unfolding Mem view
promised-from w v [] = inr refl
promised-from w v (e ∷ es) =
    ⊎_elim (λ f. inl (f.0, inr f.1, f.2))
    (λ q. ⊎_elim
    (λ p. inl (e, inl refl, record { kind = p.kind; version = p.version; ballot = p.ballot ∙ sym q }))
    (λ f. inr (q ∙ f))
    (tell-promises w v e))
    (promised-from w (tell w v e) es)

-- what was accepted stands in the list
pub took-mem : (w b : ℕ) (x : Value) (v : View) (es : List Entry) → Took w b x v es → (e : Entry) × Mem e es × IsAccept w b x e
unfolding Took Mem
took-mem w b x v [] t = absurd t
took-mem w b x v (e ∷ es) (inl a) = (e, inl refl, a.0)
took-mem w b x v (e ∷ es) (inr t) = let h = took-mem w b x (tell w v e) es t in (h.0, inr h.1, h.2)

-- a record that is accepted next
pub accepts-is : (w b : ℕ) (v : View) (e : Entry) → (accepts w v e && eqb (ballot e) b) ≡ true → IsAccept w b e.value e × (v.promised ≤ b)
accepts-is w b v e t = (
  record { kind = grind (arith, nat_tests); version = grind (arith, nat_tests); ballot = grind (arith, nat_tests); value = refl },
  grind (arith, nat_tests),
)
