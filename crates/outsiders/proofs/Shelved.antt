-- A list of which the first n are records, as a book. Assumes nothing.
use Rattle.std.proofs.Common.{◌≡◌, ℕ, ◌≤◌, List, map, length, take, Err, sym, ◌∙◌, length-take-le}
use lib.ListN.{length-map}
use Rattle.record.specs.Entry.{Entry, entry_of}
use Rattle.record.specs.declared.record.Record.{Record}
use Rattle.record.specs.declared.refusal.Refusal.TheVariants.{PastEnd}
use Rattle.account.specs.Books.{fetched}
use Rattle.account.proofs.Reading.{fetched-past}

module _ (xs : List Record) (n : ℕ) (h : n ≤ length xs) where
  abbrev log : List Entry
  log = map entry_of (take n xs)

  log-length : length log ≡ n
  log-length = length-map (take n xs) entry_of ∙ length-take-le n xs h

  pub log-past : (i : ℕ) → n ≤ i → Err PastEnd ≡ fetched log i
  log-past i l = sym (fetched-past log i (rw log-length l))
