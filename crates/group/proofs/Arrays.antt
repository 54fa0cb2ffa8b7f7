-- What an array's `map` gives where its closure computes a function. Assumes nothing.
use Rattle.std.proofs.Common.{◌≡◌, ℕ, zero, suc, ◌+◌, ◌<◌, ◌≤◌, List, map, length, get_or, subst, sym, ap, ◌∙◌, ⊎_elim, arith}
use Rattle.std.proofs.lemmas.Bool.{cases_eq}
use lib.ListN.{length-map}
use denote.Param.Members.{Mut, Called}
use Rattle.std.proofs.lemmas.List.{same_lists, get_or-map}
use Rattle.std.specs.Array.{IsMapOf, MapsFrom}

module _ {F A B : Type 0} (g : Mut F (A × Unit {0}) B) (h : A → B) (f : F) (pure : (x : A) (y : B) (q : F) → Called g f (x, tt) y q → (q ≡ f) × (y ≡ h x)) where
  each : (xs : List A) (ys : List B) (n i k : ℕ) (d : A) (e : B) → MapsFrom g f xs ys i n → i ≤ k → k < i + n → get_or ys k e ≡ h (get_or xs k d)
  each xs ys zero i k d e m l u = absurd (omega arith)
  each xs ys (suc n) i k d e (q, x, y, a, b, c, m) l u =
      ⊎_elim
      (λ s. ap (λ j. get_or ys j e) s ∙ b.1 e ∙ (pure x y q c).1 ∙ ap h (sym (a.1 d)) ∙ ap (λ j. h (get_or xs j d)) (sym s))
      (λ s. each xs ys n (i + 1) k d e (subst (λ p. MapsFrom g p xs ys (i + 1) n) (pure x y q c).0 m) (omega arith) (omega arith))
      (cases_eq k i)

  pub mapped : (d : A) (xs : List A) (ys : List B) (n : ℕ) → length xs ≡ n → IsMapOf g f xs ys n → ys ≡ map h xs
  mapped d xs ys n long m =
      same_lists ys (map h xs) (m.long ∙ sym long ∙ sym (length-map xs h))
      (λ k e l. each xs ys n 0 k d e m.each (omega arith) (omega (arith, m.long)) ∙ sym (get_or-map h xs k d e (omega (arith, m.long))))
