-- Loops that look through a device's slots, by what is still to come. Assumes nothing.
use Rattle.std.proofs.Common.{◌≡◌, ℕ, ◌+◌, ◌<◌, ◌≤◌, true, false, List, length, get_or, drop, Some, None}
use Rattle.std.proofs.lemmas.List.{drop_more, drop_all}
use Rattle.std.proofs.lemmas.Bool.{eq-eqb, ne_eqb}
use Rattle.quorum.specs.Rules.{Rule}
use Rattle.protocol.specs.Device.{fresh}
use Rattle.protocol.specs.Deciding.{accepting, agreed_value}
use Rattle.protocol.specs.declared.slot.Slot.{Slot}

-- at slot i of the slots ss
module _ (ss : List Slot) (i : ℕ) (h : i < length ss) where
  module _ (R : Rule) (all : List Slot) where
    abbrev here : ℕ
    here = (get_or ss i fresh).view.accepted

    pub quorum-here : (here ≡ 0 → ⊥) → R.is_quorum (accepting here all) ≡ true → agreed_value R all (drop i ss) ≡ Some (get_or ss i fresh).view.value
    unfolding agreed_value
    quorum-here n q = rw (drop_more ss i fresh h, ne_eqb here 0 n, q)

    pub quorum-later : (here ≡ 0 → ⊥) → R.is_quorum (accepting here all) ≡ false → agreed_value R all (drop i ss) ≡ agreed_value R all (drop (i + 1) ss)
    unfolding agreed_value
    quorum-later n q = rw (drop_more ss i fresh h, ne_eqb here 0 n, q)

    pub quorum-none : here ≡ 0 → agreed_value R all (drop i ss) ≡ agreed_value R all (drop (i + 1) ss)
    unfolding agreed_value
    quorum-none z = rw (drop_more ss i fresh h, eq-eqb here 0 z)

-- past the last slot
module _ (ss : List Slot) (i : ℕ) (h : length ss ≤ i) where
  pub quorum-end : (R : Rule) (all : List Slot) → agreed_value R all (drop i ss) ≡ None
  unfolding agreed_value
  quorum-end R all = rw (drop_all i ss h)
