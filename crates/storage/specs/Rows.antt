-- The memory of a versioned file: a row for each record, with the place of the row before it.
use Rattle.std.specs.Prelude.{ℕ, ◌-◌, cond, List, length, ◌==◌, slice_index_or, slice_set}
use Rattle.record.specs.Codes.{kind_number}
use Rattle.record.specs.Entry.{Entry}
use Rattle.record.specs.Layout.{entry_from}
use Rattle.record.specs.declared.numbers.Numbers.{Numbers}
use Rattle.account.specs.Books.{Book}
use Rattle.storage.specs.Places.{placed}
use Rattle.storage.specs.declared.row.Row.{Row}

abbrev pub blank : Row
blank = record { kind = 0; attempt = 0; device = 0; version = 0; root = 0; setup = 0; before = 0 }

-- the row of a record at place k; the first row has place 0 before it
abbrev pub row_of : Entry → ℕ → Row
row_of e k =
    record {
      kind = kind_number e.kind;
      attempt = e.attempt;
      device = e.device;
      version = e.version;
      root = e.value.root;
      setup = e.value.setup;
      before = k - 1;
    }

-- the numbers that a record is made from
abbrev pub numbers_of : Row → Numbers
numbers_of r =
    record { kind = r.kind; attempt = r.attempt; device = r.device; version = r.version; root = r.root; setup = r.setup }

abbrev pub row_at : List Row → ℕ → Row
row_at rs k = slice_index_or rs k blank

-- what rows mean of which the first n are in use
unfoldable pub row_book : List Row → ℕ → Book
row_book rs n = placed (λ k. entry_from (numbers_of (row_at rs k))) n (length rs)

-- the rows after an append at place n: one row there, and every other as it was
abbrev pub rows_after : List Row → ℕ → Entry → List Row
rows_after rs n e = cond (n == length rs) rs (slice_set rs n (row_of e n))
