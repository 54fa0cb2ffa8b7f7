-- What a `map_err` was given, from what it gave. Assumes nothing.
use Rattle.std.proofs.Common.{◌≡◌, Ok, Err, Result, subst, sym, ap, ◌∙◌, arith}
use Rattle.std.specs.Result.{MatchResult, IsErrAnd}
use Rattle.std.proofs.lemmas.Result.{err_from_is_err_and}

module _ {T D E : Type 0} (P : D → E → Type 0) (s : Result T E) where
  pub was-ok : (r : Result T D) → MatchResult r (λ y. s ≡ Ok y) (λ d. IsErrAnd s (P d)) → (x : T) → s ≡ Ok x → r ≡ Ok x
  was-ok (Ok y) m x e = grind arith
  was-ok (Err d) m x e = let p = err_from_is_err_and s m in grind arith

  pub was-err : (r : Result T D) → MatchResult r (λ y. s ≡ Ok y) (λ d. IsErrAnd s (P d)) → (y : E) → s ≡ Err y → (d : D) × (r ≡ Err d) × P d y
  was-err (Ok x) m y e = grind arith
  was-err (Err d) m y e = let p = err_from_is_err_and s m in (d, (λ i. Err d), subst (P d) (ap (λ r. elim r [ Ok _ ↦ p.0 | Err z ↦ z ]) (sym p.1 ∙ e)) p.2)
