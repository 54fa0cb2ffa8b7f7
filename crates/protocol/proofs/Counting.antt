-- A list that names each account of a set once is as long as the set has accounts. Assumes nothing.
use Rattle.std.proofs.Common.{◌≡◌, ℕ, zero, suc, ◌<◌, Bool, true, false, cond, not, ◌&&◌, eqb, List, [], ◌∷◌, length, sym, refl, ap, ◌∙◌, subst, inl, inr, ⊎_elim, arith}
use Rattle.std.proofs.lemmas.Bool.{cases_eq, cases_Bool, and_parts, eqb-false, eq-eqb, ne_eqb, not-true}
use Rattle.quorum.specs.Rules.{Set}
use Rattle.protocol.specs.Rounds.{Has, Names, members}

-- the set without account x
abbrev without : Set → ℕ → Set
without S x k = not (eqb k x) && S k

without_other : (S : Set) (x k : ℕ) → (k ≡ x → ⊥) → without S x k ≡ S k
without_other S x k ne = ap (λ b. not b && S k) (ne_eqb k x ne)

without-same : (S : Set) (x : ℕ) → without S x x ≡ false
without-same S x = ap (λ b. not b && S x) (eq-eqb x x refl)

members_alike : (S T : Set) (n : ℕ) → ((k : ℕ) → k < n → S k ≡ T k) → members S n ≡ members T n
members_alike S T zero h = refl
members_alike S T (suc n) h =
    let a = members_alike S T n (λ k l. h k (omega arith)) in
    let b = ap (λ (t : Bool). cond {A = ℕ} t 1 0) (h n (omega arith)) in
    omega (arith, a, b)

members-none : (S : Set) (n : ℕ) → ((k : ℕ) → k < n → S k ≡ true → ⊥) → members S n ≡ 0
members-none S zero h = refl
members-none S (suc n) h =
    let a = members-none S n (λ k l. h k (omega arith)) in
    let b : cond {A = ℕ} (S n) 1 0 ≡ 0 = ⊎_elim (λ t. absurd (h n (omega arith) t)) (λ f. ap (λ (t : Bool). cond {A = ℕ} t 1 0) f) (cases_Bool (S n)) in
    omega (arith, a, b)

members-without : (S : Set) (x n : ℕ) → x < n → S x ≡ true → members S n ≡ suc (members (without S x) n)
members-without S x zero l e = let z : ⊥ = omega arith in absurd z
members-without S x (suc n) l e =
    ⊎_elim
    (λ q.
    let here = ap (λ (t : Bool). cond {A = ℕ} t 1 0) (subst (λ i. S i ≡ true) (sym q) e) in
    let gone = ap (λ (t : Bool). cond {A = ℕ} t 1 0) (subst (λ i. without S x i ≡ false) (sym q) (without-same S x)) in
    let rest = members_alike S (without S x) n (λ k l'. sym (without_other S x k (λ r. omega (arith, r, q, l')))) in
    omega (arith, here, gone, rest))
    (λ ne.
    let same = ap (λ (t : Bool). cond {A = ℕ} t 1 0) (without_other S x n ne) in
    let rest = members-without S x n (omega (arith, ne, l)) e in
    omega (arith, same, rest))
    (cases_eq n x)

pub names-count : (n : ℕ) (isq : Set → Bool) (S : Set) (xs : List ℕ) → Names (record { size = n; is_quorum = isq }) S xs → length xs ≡ members S n
names-count n isq S [] h = sym (members-none S n (λ k l e. h.each k l e))
names-count n isq S (x ∷ xs) h =
    ap suc (names-count n isq (without S x) xs (record {
      once = h.once.1;
      only = λ k q. (
        (h.only k (inr q)).0,
        without_other S x k (λ e. h.once.0 (subst (λ i. Has i xs) e q)) ∙ (h.only k (inr q)).1,
      );
      each = λ k l e.
          let p = and_parts (not (eqb k x)) (S k) e in
          ⊎_elim (λ q. absurd (eqb-false k x (not-true _ p.0) q)) (λ q. q) (h.each k l p.1);
    }))
    ∙ sym (members-without S x n (h.only x (inl refl)).0 (h.only x (inl refl)).1)
