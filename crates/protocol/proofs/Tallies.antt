-- Laws of what a device counts over its slots. Assumes nothing.
use Rattle.std.proofs.Common.{◌≡◌, ℕ, zero, suc, ◌<◌, ◌≤◌, Bool, true, false, cond, not, eqb, ltb, ◌⊎◌, List, [], ◌∷◌, map, length, get_or, Some, None, fold, Option, sym, refl, ap, ◌∙◌, inl, inr, ⊎_elim, arith}
use Rattle.std.proofs.lemmas.List.{get_or-map}
use Rattle.std.proofs.lemmas.Bool.{cond_both, cond-true, cond-false, and_parts, or_left, or_right, or_from, eqb-false, ltb-true, ltb-false, lt-ltb, le-ltb, ne_eqb, not-true}
use Rattle.record.specs.declared.value.Value.{Value}
use Rattle.journal.specs.Log.{unread}
use Rattle.journal.specs.declared.view.View.{View}
use Rattle.quorum.specs.Rules.{marked, Rule}
use Rattle.protocol.specs.Device.{last_version, Device, fresh}
use Rattle.protocol.specs.Deciding.{own_marks, accepting, is_agreed, agreed_value, any_above, higher, highest, decision}
use Rattle.protocol.specs.declared.slot.Slot.{Slot}

pub marked-slot : (f : Slot → Bool) (ss : List Slot) (k : ℕ) → k < length ss → marked (map f ss) k ≡ f (get_or ss k fresh)
marked-slot f ss k l = get_or-map f ss k fresh false l

-- the higher of two is not below either, and is one of them
higher-max : (u : View) (s : Slot) → (u.accepted ≤ (higher u s).accepted) × (s.view.accepted ≤ (higher u s).accepted)
higher-max u s =
    cond_both (ltb u.accepted s.view.accepted) s.view u (λ z. (u.accepted ≤ z.accepted) × (s.view.accepted ≤ z.accepted))
    (λ e. let l = ltb-true _ _ e in (omega arith, omega arith))
    (λ e. let l = ltb-false _ _ e in (omega arith, omega arith))

grown-max : (u : View) (ss : List Slot) → u.accepted ≤ (fold higher u ss).accepted
grown-max u [] = omega arith
grown-max u (s ∷ ss) = omega (arith, (higher-max u s).0, grown-max (higher u s) ss)

max-from : (u : View) (ss : List Slot) (k : ℕ) → (get_or ss k fresh).view.accepted ≤ (fold higher u ss).accepted
max-from u [] k = omega arith
max-from u (s ∷ ss) zero = omega (arith, (higher-max u s).1, grown-max (higher u s) ss)
max-from u (s ∷ ss) (suc k) = max-from (higher u s) ss k

-- the highest accepted ballot is not below any
pub highest-max : (ss : List Slot) (k : ℕ) → (get_or ss k fresh).view.accepted ≤ (highest ss).accepted
highest-max ss k = max-from unread ss k

one_of : (u : View) (ss : List Slot) → (fold higher u ss ≡ u) ⊎ ((k : ℕ) × (fold higher u ss ≡ (get_or ss k fresh).view))
one_of u [] = inl refl
one_of u (s ∷ ss) =
    ⊎_elim
    (λ e. cond_both (ltb u.accepted s.view.accepted) s.view u
    (λ z. higher u s ≡ z → (fold higher (higher u s) ss ≡ u) ⊎ ((k : ℕ) × (fold higher (higher u s) ss ≡ (get_or (s ∷ ss) k fresh).view)))
    (λ _ q. inr (0, e ∙ q)) (λ _ q. inl (e ∙ q)) refl)
    (λ k. inr (suc k.0, k.1))
    (one_of (higher u s) ss)

-- and is some account's, or 0
pub highest-from : (ss : List Slot) → ((highest ss).accepted ≡ 0) ⊎ ((k : ℕ) × (highest ss ≡ (get_or ss k fresh).view))
highest-from ss = ⊎_elim (λ e. inl (ap (λ (u : View). u.accepted) e)) inr (one_of unread ss)

-- a promised ballot above b, and none
pub above_at : (b : ℕ) (ss : List Slot) (k : ℕ) → b < (get_or ss k fresh).view.promised → any_above b ss ≡ true
unfolding any_above
above_at b [] k l = let z : ⊥ = omega arith in absurd z
above_at b (s ∷ ss) zero l = or_left _ _ (lt-ltb b _ l)
above_at b (s ∷ ss) (suc k) l = or_right _ _ (above_at b ss k l)

pub none_above : (b : ℕ) (ss : List Slot) → ((k : ℕ) → k < length ss → (get_or ss k fresh).view.promised ≤ b) → any_above b ss ≡ false
unfolding any_above
none_above b [] h = refl
none_above b (s ∷ ss) h = or_from _ _ (le-ltb b _ (h 0 (omega arith))) (none_above b ss (λ k l. h (suc k) (omega arith)))

-- the first slot that is agreed, and none
pub agreed-at : (R : Rule) (all ss : List Slot) (k : ℕ) → k < length ss → ((j : ℕ) → j < k → is_agreed R all (get_or ss j fresh) ≡ false)
    → is_agreed R all (get_or ss k fresh) ≡ true → agreed_value R all ss ≡ Some (get_or ss k fresh).view.value
unfolding agreed_value
agreed-at R all [] k l h e = let z : ⊥ = omega arith in absurd z
agreed-at R all (s ∷ ss) zero l h e = cond-true (is_agreed R all s) _ _ e
agreed-at R all (s ∷ ss) (suc k) l h e =
    cond-false (is_agreed R all s) _ _ (h 0 (omega arith)) ∙ agreed-at R all ss k (omega arith) (λ j b. h (suc j) (omega arith)) e

pub none-agreed : (R : Rule) (all ss : List Slot) → ((k : ℕ) → k < length ss → is_agreed R all (get_or ss k fresh) ≡ false) → agreed_value R all ss ≡ None
unfolding agreed_value
none-agreed R all [] h = refl
none-agreed R all (s ∷ ss) h = cond-false (is_agreed R all s) _ _ (h 0 (omega arith)) ∙ none-agreed R all ss (λ k l. h (suc k) (omega arith))

-- which way a test that gives a value went
some-cases : (b : Bool) (a : Value) (o : Option Value) (x : Value) → cond b (Some a) o ≡ Some x → ((b ≡ true) × (a ≡ x)) ⊎ (o ≡ Some x)
some-cases true a o x e = inl (refl, cc)
some-cases false a o x e = inr e

none-not-some : (x : Value) → None ≡ Some x → ⊥
none-not-some x e = let z : ◌≡◌ {A = ℕ} 0 1 = cc in omega arith

none-cases : (b : Bool) (a : Value) (o : Option Value) → cond b (Some a) o ≡ None → b ≡ false
none-cases true a o e = absurd (none-not-some a (sym e))
none-cases false a o e = refl

none_first : (b : Bool) (o : Option Value) (x : Value) → cond b None o ≡ Some x → o ≡ Some x
none_first true o x e = absurd (none-not-some x e)
none_first false o x e = e

-- a value that a quorum's accepted ballots decide is that of some account with such a ballot
pub agreed-from : (R : Rule) (all ss : List Slot) (x : Value) → agreed_value R all ss ≡ Some x
    → (k : ℕ) × (0 < (get_or ss k fresh).view.accepted) × (R.is_quorum (accepting (get_or ss k fresh).view.accepted all) ≡ true)
    × ((get_or ss k fresh).view.value ≡ x)
unfolding agreed_value
agreed-from R all [] x e = absurd (none-not-some x e)
agreed-from R all (s ∷ ss) x e =
    ⊎_elim
    (λ q.
    let p = and_parts (not (eqb s.view.accepted 0)) _ q.0 in
    (0, positive s.view.accepted (eqb-false _ _ (not-true _ p.0)), p.1, q.1))
    (λ q. let r = agreed-from R all ss x q in (suc r.0, r.1, r.2, r.3))
    (some-cases _ _ (agreed_value R all ss) x e)
  where
    positive : (n : ℕ) → (n ≡ 0 → ⊥) → 0 < n
    positive n h = omega arith

-- what decided: the own marks, or the accepted ballots of a quorum
pub decision-cases : (R : Rule) (v : Device) (x : Value) → decision R v ≡ Some x
    → ((R.is_quorum (own_marks v.slots) ≡ true) × (v.carried ≡ x)) ⊎ (agreed_value R v.slots v.slots ≡ Some x)
unfolding decision
decision-cases R v x e =
    some-cases (R.is_quorum (own_marks v.slots)) v.carried _ x (none_first (eqb v.known last_version) _ x e)

-- where nothing is decided, the own marks are too few
pub undecided-own : (R : Rule) (v : Device) → decision R v ≡ None → (v.known ≡ last_version → ⊥) → R.is_quorum (own_marks v.slots) ≡ false
unfolding decision
undecided-own R v e ne =
    none-cases (R.is_quorum (own_marks v.slots)) v.carried (agreed_value R v.slots v.slots)
    (sym (cond-false (eqb v.known last_version) None _ (ne_eqb v.known last_version ne)) ∙ e)
