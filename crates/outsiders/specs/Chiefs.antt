-- The rule of one account: what it says, the others follow.
use Rattle.std.specs.Prelude.{ℕ}
use Rattle.quorum.specs.Rules.{Rule}

abbrev pub chief : ℕ → Rule
chief n = record { size = n; is_quorum = λ S. S 0 }
