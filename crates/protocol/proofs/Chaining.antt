-- Laws of the chain. Assumes nothing.
use Rattle.std.proofs.Common.{◌≡◌, ◌<◌, cond, eqb, ltb, List, [], ◌∷◌, ◌++◌, length, Some, None, sym, subst, arith}
use Rattle.std.proofs.lemmas.List.Sums.{fold_push}
use Rattle.std.proofs.lemmas.Bool.{cond-true, cond-false, eq-eqb, ne_eqb, lt-ltb}
use Rattle.record.specs.declared.value.Value.{Value}
use Rattle.protocol.specs.Chain.{Proposal, hand, entry, reply, chain}

pub chain-push : (ps : List Proposal) (p : Proposal) → chain (ps ++ p ∷ []) ≡ hand (chain ps) p
chain-push ps p = fold_push hand [] ps p

-- the chain has base entries: the value is added
pub hand-adds : (xs : List Value) (p : Proposal) → p.base ≡ length xs → hand xs p ≡ xs ++ p.value ∷ []
unfolding hand
hand-adds xs p e = cond-true (eqb (length xs) p.base) _ _ (eq-eqb _ _ (sym e))

-- it has more
pub hand-keeps : (xs : List Value) (p : Proposal) → p.base < length xs → hand xs p ≡ xs
unfolding hand
hand-keeps xs p l = cond-false (eqb (length xs) p.base) _ _ (ne_eqb _ _ (λ e. omega (arith, l, e)))

pub reply-is : (xs ys : List Value) (p : Proposal) → hand xs p ≡ ys → p.base < length ys → reply xs p ≡ Some (entry ys p.base)
unfolding reply
reply-is xs ys p e l =
    subst (λ zs. cond (ltb p.base (length zs)) (Some (entry zs p.base)) None ≡ Some (entry ys p.base)) (sym e)
    (cond-true (ltb p.base (length ys)) _ _ (lt-ltb _ _ l))
