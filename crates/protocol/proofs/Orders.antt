-- An order of a run's first proposals, and how it grows: by a proposal at its end, and by a call.
use Rattle.std.proofs.Common.{◌≡◌, ℕ, zero, suc, ◌+◌, ◌<◌, ◌⊎◌, List, [], ◌∷◌, ◌++◌, map, length, get_or, take, Some, Option, sym, ap, ◌∙◌, subst, inl, inr, ⊎_elim, arith}
use lib.Seq.{take-append-le, take-append_seam}
use Rattle.std.proofs.lemmas.List.{map_push, length_push, get_or_append_left, get_or_push}
use Rattle.std.proofs.lemmas.Bool.{cases_eq, cases_lt}
use Rattle.record.specs.Entry.{no_value}
use Rattle.record.specs.declared.value.Value.{Value}
use Rattle.quorum.specs.Rules.{Rule}
use Rattle.protocol.specs.State.{State, held}
use Rattle.protocol.specs.Runs.{after}
use Rattle.protocol.specs.Chain.{hand, entry, reply, chain, proposal, Opens, Answered, chain_of}
use Rattle.protocol.specs.declared.call.Call.{Call}
use Rattle.protocol.specs.declared.version.Version.{Version}
use Rattle.protocol.proofs.Chaining.{chain-push, reply-is}

-- a place in a list with one entry more
data Place (xs : List ℕ) (y p : ℕ) : Type 0 where
  old : p < length xs → get_or (xs ++ y ∷ []) p 0 ≡ get_or xs p 0 → take p (xs ++ y ∷ []) ≡ take p xs → Place xs y p
  last : p ≡ length xs → get_or (xs ++ y ∷ []) p 0 ≡ y → take p (xs ++ y ∷ []) ≡ xs → Place xs y p

place : (xs : List ℕ) (y p : ℕ) → p < length (xs ++ y ∷ []) → Place xs y p
place xs y p l =
    ⊎_elim
    (λ lt. old lt (get_or_append_left xs (y ∷ []) 0 p lt) (take-append-le p xs (y ∷ []) (omega arith)))
    (λ le.
    let e : p ≡ length xs = omega (arith, length_push xs y) in
    last e (get_or_push xs y 0 p (sym e)) (ap (λ n. take n (xs ++ y ∷ [])) e ∙ take-append_seam xs (y ∷ [])))
    (cases_lt p (length xs))

-- y stands at some place of xs
abbrev pub Stands : List ℕ → ℕ → Type 0
Stands xs y = (p : ℕ) × (p < length xs) × (get_or xs p 0 ≡ y)

abbrev pub Absent : List ℕ → ℕ → Type 0
Absent xs y = (p : ℕ) → p < length xs → get_or xs p 0 ≡ y → ⊥

pub stands : (xs : List ℕ) (y : ℕ) → Stands xs y ⊎ Absent xs y
stands [] y = inr (λ p l. let z : ⊥ = omega arith in absurd z)
stands (x ∷ xs) y =
    ⊎_elim
    (λ e. inl (0, omega arith, e))
    (λ ne. ⊎_elim
    (λ q. inl (suc q.0, omega (arith, q.1), q.2))
    (λ none'. inr (λ p. elim p as (λ p. p < suc (length xs) → get_or (x ∷ xs) p 0 ≡ y → ⊥) [ zero ↦ λ _ e. ne e | suc p ↦ λ l e. none' p (omega arith) e ]))
    (stands xs y))
    (cases_eq x y)

-- a list of values that another begins with
abbrev pub Begins : List Value → List Value → Type 0
Begins xs ys = (u : ℕ) → u < length xs → (u < length ys) × (get_or ys u no_value ≡ get_or xs u no_value)

entry-begins : (xs ys : List Value) (b : ℕ) → Begins xs ys → b < length xs → entry xs b ≡ entry ys b
entry-begins xs ys b h l = ap (λ (x : Value). record { number = b + 1; value = x }) (sym (h b l).1)

module _ (R : Rule) (s : State) (cs : List Call) where
  abbrev Chained : List ℕ → List Value
  Chained order = chain_of R s cs order

  abbrev pub Base : ℕ → ℕ
  Base i = (proposal R s cs i).base

  -- an order of proposals of the first t calls: what one order is to be at the end, said of the chain as it then stands
  pub record Ordered (t : ℕ) (order : List ℕ) : Type 0 where
    pub once : (p q : ℕ) → p < length order → q < length order → get_or order p 0 ≡ get_or order q 0 → p ≡ q
    pub opened : (p : ℕ) → p < length order → (get_or order p 0 < t) × (d : ℕ) × Opens R s cs d (get_or order p 0)
    pub based : (p : ℕ) → p < length order → Base (get_or order p 0) < length (Chained order)
    pub replies : (p : ℕ) → p < length order
        → reply (Chained (take p order)) (proposal R s cs (get_or order p 0)) ≡ Some (entry (Chained order) (Base (get_or order p 0)))
    pub answered : (d i j : ℕ) → j < t → Answered R s cs d i j
        → Stands order i × (held (after R s cs (suc j)) d ≡ entry (Chained order) (Base i))
    pub earlier : (d i j p q : ℕ) → Answered R s cs d i j → p < length order → q < length order → get_or order p 0 ≡ i → j < get_or order q 0 → p < q

  pub ordered-none : Ordered 0 []
  ordered-none =
      record {
        once = λ p q l. let z : ⊥ = omega arith in absurd z;
        opened = λ p l. let z : ⊥ = omega arith in absurd z;
        based = λ p l. let z : ⊥ = omega arith in absurd z;
        replies = λ p l. let z : ⊥ = omega arith in absurd z;
        answered = λ d i j l. let z : ⊥ = omega arith in absurd z;
        earlier = λ d i j p q a l. let z : ⊥ = omega arith in absurd z;
      }

  -- one proposal more at the end, which makes the chain ys
  module _ (t : ℕ) (order : List ℕ) (h : Ordered t order) (d i : ℕ) (l : i < t) (o : Opens R s cs d i) (absent : Absent order i)
      (ys : List Value) (e : hand (Chained order) (proposal R s cs i) ≡ ys) (b : Base i < length ys) (begins : Begins (Chained order) ys) where
    abbrev more : List ℕ
    more = order ++ i ∷ []

    pub chain_more : Chained more ≡ ys
    chain_more = ap chain (map_push (proposal R s cs) order i) ∙ chain-push (map (proposal R s cs) order) (proposal R s cs i) ∙ e

    more-once : (p q : ℕ) → Place order i p → Place order i q → get_or more p 0 ≡ get_or more q 0 → p ≡ q
    more-once p q (old lp ep _) (old lq eq _) s = h.once p q lp lq (sym ep ∙ s ∙ eq)
    more-once p q (old lp ep _) (last lq eq _) s = absurd (absent p lp (sym ep ∙ s ∙ eq))
    more-once p q (last lp ep _) (old lq eq _) s = absurd (absent q lq (sym eq ∙ sym s ∙ ep))
    more-once p q (last lp ep _) (last lq eq _) s = lp ∙ sym lq

    more-opened : (p : ℕ) → Place order i p → (get_or more p 0 < t) × (d : ℕ) × Opens R s cs d (get_or more p 0)
    more-opened p (old lp ep _) = subst (λ n. (n < t) × (d : ℕ) × Opens R s cs d n) (sym ep) (h.opened p lp)
    more-opened p (last lp ep _) = subst (λ n. (n < t) × (d : ℕ) × Opens R s cs d n) (sym ep) (l, d, o)

    more-based : (p : ℕ) → Place order i p → Base (get_or more p 0) < length ys
    more-based p (old lp ep _) = subst (λ n. Base n < length ys) (sym ep) (begins (Base (get_or order p 0)) (h.based p lp)).0
    more-based p (last lp ep _) = subst (λ n. Base n < length ys) (sym ep) b

    more-replies : (p : ℕ) → Place order i p
        → reply (Chained (take p more)) (proposal R s cs (get_or more p 0)) ≡ Some (entry ys (Base (get_or more p 0)))
    more-replies p (old lp ep tp) =
        subst (λ n. reply (Chained (take p more)) (proposal R s cs n) ≡ Some (entry ys (Base n))) (sym ep)
        (subst (λ xs. reply (Chained xs) (proposal R s cs (get_or order p 0)) ≡ Some (entry ys (Base (get_or order p 0)))) (sym tp)
        (h.replies p lp ∙ ap {B = Option Version} Some (entry-begins (Chained order) ys _ begins (h.based p lp))))
    more-replies p (last lp ep tp) =
        subst (λ n. reply (Chained (take p more)) (proposal R s cs n) ≡ Some (entry ys (Base n))) (sym ep)
        (subst (λ xs. reply (Chained xs) (proposal R s cs i) ≡ Some (entry ys (Base i))) (sym tp)
        (reply-is (Chained order) ys (proposal R s cs i) e b))

    more-answered : (d i' j : ℕ) → j < t → Answered R s cs d i' j → Stands more i' × (held (after R s cs (suc j)) d ≡ entry ys (Base i'))
    more-answered d i' j lj a =
        let q = h.answered d i' j lj a in
        let p = q.0 in (
          (p.0, omega (arith, p.1, length_push order i), get_or_append_left order (i ∷ []) 0 p.0 p.1 ∙ p.2),
          q.1 ∙ entry-begins (Chained order) ys (Base i') begins (subst (λ n. Base n < length (Chained order)) p.2 (h.based p.0 p.1)),
        )

    more-earlier : (d i' j p q : ℕ) → Answered R s cs d i' j → Place order i p → Place order i q → get_or more p 0 ≡ i' → j < get_or more q 0 → p < q
    more-earlier d i' j p q a (old lp ep _) (old lq eq _) s lj = h.earlier d i' j p q a lp lq (sym ep ∙ s) (omega (arith, lj, eq))
    more-earlier d i' j p q a (old lp ep _) (last lq eq _) s lj = omega arith
    more-earlier d i' j p q a (last lp ep _) pq s lj =
        let z = (h.answered d i' j (omega (arith, lj, (more-opened q pq).0)) a).0 in
        absurd (absent z.0 z.1 (z.2 ∙ sym s ∙ ep))

    pub ordered-more : Ordered t more
    ordered-more =
        record {
          once = λ p q lp lq. more-once p q (place order i p lp) (place order i q lq);
          opened = λ p lp. more-opened p (place order i p lp);
          based = λ p lp. subst (λ xs. Base (get_or more p 0) < length xs) (sym chain_more) (more-based p (place order i p lp));
          replies = λ p lp.
              subst (λ xs. reply (Chained (take p more)) (proposal R s cs (get_or more p 0)) ≡ Some (entry xs (Base (get_or more p 0))))
              (sym chain_more) (more-replies p (place order i p lp));
          answered = λ d' i' j lj a.
              let q = more-answered d' i' j lj a in
              (q.0, subst (λ xs. held (after R s cs (suc j)) d' ≡ entry xs (Base i')) (sym chain_more) q.1);
          earlier = λ d' i' j p q a lp lq. more-earlier d' i' j p q a (place order i p lp) (place order i q lq);
        }

  -- one call more, with what it answers
  pub ordered-next : (t : ℕ) (order : List ℕ) → Ordered t order
      → ((d i : ℕ) → Answered R s cs d i t → Stands order i × (held (after R s cs (suc t)) d ≡ entry (Chained order) (Base i)))
      → Ordered (suc t) order
  ordered-next t order h new =
      record {
        once = h.once;
        opened = λ p l. let q = h.opened p l in (omega (arith, q.0), q.1, q.2);
        based = h.based;
        replies = h.replies;
        answered = λ d i j l a.
            ⊎_elim
            (λ e. let q = new d i (subst (Answered R s cs d i) e a) in (q.0, ap (λ n. held (after R s cs (suc n)) d) e ∙ q.1))
            (λ ne. h.answered d i j (omega arith) a)
            (cases_eq j t);
        earlier = h.earlier;
      }
