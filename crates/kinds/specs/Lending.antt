-- What a lender's memory holds once an account was founded on it and a record appended.
use Rattle.std.specs.Prelude.{ℕ, List, length, Ok, Err, Result}
use Rattle.record.specs.Entry.{Entry}
use Rattle.record.specs.declared.refusal.Refusal.{Refusal}
use Rattle.storage.specs.Sizes.{byte_room, row_room}
use Rattle.storage.specs.Areas.{area_after}
use Rattle.storage.specs.Rows.{rows_after}
use Rattle.storage.specs.declared.row.Row.{Row}

-- memory that is refused stays as it was
abbrev pub founded : {X : Type 0} → Result ℕ Refusal → X → X → Result ℕ Refusal × X
founded (Ok m) before after = (Ok 1, after)
founded (Err e) before after = (Err e, before)

abbrev pub stored : List ℕ → Entry → Result ℕ Refusal × List ℕ
stored bs e = founded (byte_room (length bs)) bs (area_after bs 0 e)

abbrev pub filed : List Row → Entry → Result ℕ Refusal × List Row
filed rs e = founded (row_room (length rs)) rs (rows_after rs 0 e)
