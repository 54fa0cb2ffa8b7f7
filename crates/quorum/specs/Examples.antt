-- Sets that are quorums, and sets that are not.
use Rattle.std.specs.Prelude.{◌≡◌, Bool, true, false, List, [], ◌∷◌}
use Rattle.quorum.specs.Rules.{Rule, marked}
use Rattle.quorum.specs.Weights.{majority, weighted, weight_in}

pub record Example : Type 0 where
  pub rule : Rule
  pub marks : List Bool
  pub quorum : Bool

abbrev pub example : Rule → List Bool → Bool → Example
example R s b = record { rule = R; marks = s; quorum = b }

abbrev pub three_one_one : Rule
three_one_one = weighted (weight_in (3 ∷ 1 ∷ 1 ∷ [])) 3

abbrev pub examples : List Example
examples =
    example (majority 4) (true ∷ true ∷ false ∷ false ∷ []) false
    ∷ example (majority 4) (true ∷ true ∷ true ∷ false ∷ []) true
    ∷ example three_one_one (true ∷ false ∷ false ∷ []) true
    ∷ example three_one_one (false ∷ true ∷ true ∷ []) false
    ∷ []

abbrev pub Hold : List Example → Type 0
Hold [] = Unit {0}
Hold (e ∷ es) = (e.rule.is_quorum (marked e.marks) ≡ e.quorum) × Hold es
