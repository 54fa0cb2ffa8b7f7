-- Tables of refusals: where one refuses, and where none does. Assumes nothing.
use Rattle.std.proofs.Common.{◌≡◌, false, List, [], ◌∷◌, Err, refl, ◌∙◌}
use Rattle.std.proofs.lemmas.Bool.{cond_both, cond-false}
use Rattle.record.specs.Checks.{Check}
use Rattle.record.specs.declared.refusal.Refusal.{Refusal}
use Rattle.protocol.specs.State.{State}
use Rattle.protocol.specs.Calls.{Reply, guarded}

-- no test of the table holds
abbrev pub Clear : List Check → Type 0
Clear [] = Unit {0}
Clear (c ∷ cs) = (c.test ≡ false) × Clear cs

-- what holds of every refusal, and of the reply where no test holds, holds of the whole
pub guarded-cases : {X : Type 0} (cs : List Check) (s : State) (r : Reply X) (P : Reply X → Type 0)
    → ((e : Refusal) → P (Err e, s)) → (Clear cs → P r) → P (guarded cs s r)
guarded-cases [] s r P no' ok = ok tt
guarded-cases (c ∷ cs) s r P no' ok =
    cond_both c.test (Err c.refusal, s) (guarded cs s r) P (λ _. no' c.refusal) (λ e. guarded-cases cs s r P no' (λ h. ok (e, h)))

pub guarded-clear : {X : Type 0} (cs : List Check) (s : State) (r : Reply X) → Clear cs → guarded cs s r ≡ r
guarded-clear [] s r h = refl
guarded-clear (c ∷ cs) s r h = cond-false c.test _ _ h.0 ∙ guarded-clear cs s r h.1
