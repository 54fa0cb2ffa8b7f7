-- Tables of refusals: what an answer says of the tests. Assumes nothing.
use Rattle.std.proofs.Common.{◌≡◌, ℕ, Bool, true, false, cond, List, [], ◌∷◌, Ok, Err, Result, refl, arith}
use Rattle.record.specs.Checks.{Check, unless}
use Rattle.record.specs.declared.refusal.Refusal.{Refusal}

err-ok : {A E : Type 0} (x : A) (y : E) → Err y ≡ Ok x → ⊥
err-ok x y e = let z : ◌≡◌ {A = ℕ} 0 1 = cc in omega arith

-- where a test does not refuse, it failed, and the rest of the table does not refuse either
pub passed : {A : Type 0} (b : Bool) (d : Refusal) (r : Result A Refusal) (x : A) → cond b (Err d) r ≡ Ok x → (b ≡ false) × (r ≡ Ok x)
passed true d r x e = absurd (err-ok x d e)
passed false d r x e = (refl, e)

-- what a table lets through is what it was asked about
pub let_through : {A : Type 0} (cs : List Check) (a x : A) → unless cs a ≡ Ok x → a ≡ x
let_through [] a x e = cc
let_through (c ∷ cs) a x e = let_through cs a x (passed c.test c.refusal (unless cs a) x e).1
