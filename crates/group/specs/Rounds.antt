-- The orders of a round as a caller passes them.
use Rattle.std.specs.Prelude.{◌≡◌, ℕ, List, ◌++◌}
use Rattle.std.specs.List.{AllZip}
use Rattle.protocol.specs.Rounds as round
use Rattle.protocol.specs.declared.call.Call.{Call}
use Rattle.group.specs.declared.round.Orders.{Orders}

abbrev pub orders_of : Orders → round.Orders
orders_of o =
    record {
      first = o.first.now;
      second = o.second.now;
      third = o.third.now;
      fourth = o.fourth.now;
      fifth = o.fifth.now;
    }

-- after the calls `old` stands one for each account, of which P holds, and nothing else
abbrev pub AddsEach : (ℕ → Call → Type 0) → List ℕ → List Call → List Call → Type 0
AddsEach P accounts old new = (calls : List Call) × (new ≡ old ++ calls) × AllZip P accounts calls
