-- What a shelf means, and the outsider's accounts side by side.
use Rattle.std.specs.Prelude.{[], ◌∷◌, map, take}
use Rattle.std.proofs.Common.{arith, length-take}
use Rattle.std.proofs.lemmas.List.{length-map}
use Rattle.record.specs.Entry.{entry_of}
use Rattle.account.specs.Books.{Book, Keeps, empty}
use Rattle.group.specs.Founding.{new_state}
use Rattle.protocol.specs.State.{State}
use Rattle.outsiders.specs.declared.shelf.Shelf.{Shelf}

abbrev pub shelf_book : Shelf → Book
shelf_book s = record { log = map entry_of (take s.used s.rows); maximum = 4 }

-- it keeps to its book: a proof, and nothing to believe
pub shelf-keeps : (s : Shelf) → Keeps (shelf_book s)
shelf-keeps s =
    record {
      some = omega arith;
      within = omega (arith, length-map (take s.used s.rows) entry_of, length-take s.used s.rows);
      fits = omega arith;
    }

-- a shelf and a byte log, each with room for four records
abbrev pub mixed_accounts : State
mixed_accounts = new_state (empty 4 ∷ empty 4 ∷ [])
