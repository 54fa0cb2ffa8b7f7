-- What an account means, and what its calls answer and leave.
use Rattle.std.specs.Prelude.{ℕ, zero, suc, ◌+◌, ◌-◌, ◌^◌, ◌<◌, ◌≤◌, min, Bool, cond, List, [], ◌∷◌, ◌++◌, length, Ok, Err, Result, ◌==◌}
use Rattle.record.specs.Entry.{Entry}
use Rattle.record.specs.declared.refusal.Refusal.{Refusal}
use Rattle.record.specs.declared.refusal.Refusal.TheVariants.{Full, PastEnd, NoSuchAccount}

-- records in order, and how many there may be
pub record Book : Type 0 where
  pub log : List Entry
  pub maximum : ℕ

abbrev pub empty : ℕ → Book
empty m = record { log = []; maximum = m }

-- what every account keeps to: room for one record at least, no more records than the maximum, and that fits a machine's number
pub record Keeps (b : Book) : Type 0 where
  pub some : 1 ≤ b.maximum
  pub within : length b.log ≤ b.maximum
  pub fits : b.maximum < 2 ^ 64

abbrev pub is_full : Book → Bool
is_full b = length b.log == b.maximum

-- one record more
abbrev pub grown : Book → Entry → Book
grown b e = record { log = b.log ++ e ∷ []; maximum = b.maximum }

-- append: the new length, unless the account is full
abbrev pub appended : Book → Entry → Result ℕ Refusal × Book
appended b e = cond (is_full b) (Err Full, b) (Ok (length b.log + 1), grown b e)

-- read: the record at a place counted from 0
abbrev pub fetched : List Entry → ℕ → Result Entry Refusal
fetched [] i = Err PastEnd
fetched (e ∷ es) zero = Ok e
fetched (e ∷ es) (suc i) = fetched es i

-- the same calls on account k of several
abbrev pub appended_at : List Book → ℕ → Entry → Result ℕ Refusal × List Book
appended_at [] k e = (Err NoSuchAccount, [])
appended_at (b ∷ bs) zero e = ((appended b e).0, (appended b e).1 ∷ bs)
appended_at (b ∷ bs) (suc k) e = ((appended_at bs k e).0, b ∷ (appended_at bs k e).1)

abbrev pub fetched_at : List Book → ℕ → ℕ → Result Entry Refusal
fetched_at [] k i = Err NoSuchAccount
fetched_at (b ∷ bs) zero i = fetched b.log i
fetched_at (b ∷ bs) (suc k) i = fetched_at bs k i

abbrev pub length_at : List Book → ℕ → Result ℕ Refusal
length_at [] k = Err NoSuchAccount
length_at (b ∷ bs) zero = Ok (length b.log)
length_at (b ∷ bs) (suc k) = length_at bs k

-- how many accounts there are; the greatest number of 64 bits stands for any above it
abbrev pub counted : List Book → ℕ
counted bs = min (length bs) (2 ^ 64 - 1)

-- every account keeps to its book
abbrev pub AllKeep : List Book → Type 0
AllKeep [] = Unit {0}
AllKeep (b ∷ bs) = Keeps b × AllKeep bs
