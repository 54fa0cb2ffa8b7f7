-- Copying the newest record of one account to the end of another.
use Rattle.std.specs.Prelude.{ℕ, ◌-◌, List, Ok, Err, Result}
use Rattle.record.specs.Entry.{Entry}
use Rattle.record.specs.declared.refusal.Refusal.{Refusal}
use Rattle.account.specs.Books.{Book, appended_at, fetched_at, length_at}

abbrev pub newest_of : List Book → ℕ → Result ℕ Refusal → Result Entry Refusal
newest_of bs k (Ok n) = fetched_at bs k (n - 1)
newest_of bs k (Err e) = Err e

abbrev pub passed_on : List Book → ℕ → Result Entry Refusal → Result ℕ Refusal × List Book
passed_on bs k (Ok e) = appended_at bs k e
passed_on bs k (Err e) = (Err e, bs)

abbrev pub relayed : List Book → ℕ → ℕ → Result ℕ Refusal × List Book
relayed bs from to = passed_on bs to (newest_of bs from (length_at bs from))
