-- The memory of a byte log: records side by side, sixteen bytes each.
use Rattle.std.specs.Prelude.{ℕ, ◌+◌, ◌*◌, ◌/◌, cond, List, ◌++◌, length, take, drop, ◌==◌}
use Rattle.std.specs.Int.Digits.{number_from_digits}
use Rattle.record.specs.Entry.{Entry}
use Rattle.record.specs.Layout.{unpacked, entry_from, encoded}
use Rattle.account.specs.Books.{Book}
use Rattle.storage.specs.Places.{placed}

-- the sixteen bytes at place k
abbrev pub slot : List ℕ → ℕ → List ℕ
slot bs k = take 16 (drop (k * 16) bs)

-- the record that they stand for
abbrev pub record_at : List ℕ → ℕ → Entry
record_at bs k = entry_from (unpacked (number_from_digits 256 (slot bs k)))

-- what an area means whose first n places are in use
unfoldable pub area_book : List ℕ → ℕ → Book
area_book bs n = placed (record_at bs) n (length bs / 16)

-- the area after an append at place n: the record's bytes there, and every other byte as it was
abbrev pub area_after : List ℕ → ℕ → Entry → List ℕ
area_after bs n e = cond (n == length bs / 16) bs (take (n * 16) bs ++ encoded e ++ drop (n * 16 + 16) bs)
