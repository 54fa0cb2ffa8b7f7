-- Accounts that keep the record at place k of their book at place k of their memory.
use Rattle.std.specs.Prelude.{ℕ, map}
use Rattle.std.specs.List.{range_with_len}
use Rattle.record.specs.Entry.{Entry}
use Rattle.account.specs.Books.{Book}

-- n places in use, of at most m
abbrev pub placed : (ℕ → Entry) → ℕ → ℕ → Book
placed at n m = record { log = map at (range_with_len 0 n); maximum = m }
