-- Refusals as a table: tests in the order in which they are made, each with what it refuses with.
use Rattle.std.specs.Prelude.{Bool, cond, List, [], ◌∷◌, Ok, Err, Result}
use Rattle.record.specs.declared.refusal.Refusal.{Refusal}

-- if the test holds, this is the refusal
pub record Check : Type 0 where
  pub test : Bool
  pub refusal : Refusal

abbrev pub when : Bool → Refusal → Check
when b e = record { test = b; refusal = e }

-- the first test of the table that holds refuses; where none does, the answer is a
abbrev pub unless : {A : Type 0} → List Check → A → Result A Refusal
unless [] a = Ok a
unless (c ∷ cs) a = cond c.test (Err c.refusal) (unless cs a)
