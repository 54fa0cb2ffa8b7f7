-- What holds of every entry of a list that was made, set or mapped. Assumes nothing.
use Rattle.std.proofs.Common.{◌≡◌, ℕ, ◌<◌, List, map, length, get_or, set, replicate, sym, subst, ⊎_elim, arith, get_or-set_other, get_or-set_same}
use lib.ListN.{get_or-map, length-replicate, get_or-replicate}
use Rattle.std.proofs.lemmas.List.{get_or_past}
use Rattle.std.proofs.lemmas.Bool.{cases_eq, cases_lt}

pub get_or-same : {A : Type 0} (n k : ℕ) (x : A) → get_or (replicate n x) k x ≡ x
get_or-same n k x =
    ⊎_elim (λ l. get_or-replicate n k x x l) (λ g. get_or_past (replicate n x) k x (omega (arith, length-replicate n x)))
    (cases_lt k n)

-- a function that keeps the default
pub get_or-mapped : {A : Type 0} (f : A → A) (xs : List A) (d : A) (k : ℕ) → f d ≡ d → get_or (map f xs) k d ≡ f (get_or xs k d)
get_or-mapped f xs d k e = subst (λ z. get_or (map f xs) k z ≡ f (get_or xs k d)) e (get_or-map f xs k d)

module _ {A : Type 0} (d : A) (P : ℕ → A → Type 0) where
  pub mapped : (f : A → A) (xs : List A) → f d ≡ d → ((k : ℕ) → P k (f (get_or xs k d))) → (k : ℕ) → P k (get_or (map f xs) k d)
  mapped f xs e h k = subst (P k) (sym (get_or-mapped f xs d k e)) (h k)

  pub placed : (xs : List A) (j : ℕ) (x : A) → j < length xs → P j x → ((k : ℕ) → P k (get_or xs k d)) → (k : ℕ) → P k (get_or (set xs j x) k d)
  placed xs j x l here there k =
      ⊎_elim
      (λ e. subst (λ i. P i (get_or (set xs j x) i d)) (sym e) (subst (P j) (sym (get_or-set_same xs j x d l)) here))
      (λ ne. subst (P k) (sym (get_or-set_other xs j k x d ne)) (there k))
      (cases_eq k j)
