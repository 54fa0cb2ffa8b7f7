-- The state of a group: its accounts, and its sixteen devices.
use Rattle.std.specs.Prelude.{ℕ, false, List, [], slice_index_or, slice_set}
use Rattle.record.specs.Entry.{Entry}
use Rattle.account.specs.Books.{Book}
use Rattle.protocol.specs.Device.{Device, new_device}
use Rattle.protocol.specs.declared.version.Version.{Version}

pub record State : Type 0 where
  pub books : List Book
  pub devices : List Device

abbrev pub no_book : Book
no_book = record { log = []; maximum = 0 }

abbrev pub book_at : State → ℕ → Book
book_at s k = slice_index_or s.books k no_book

abbrev pub log_at : State → ℕ → List Entry
log_at s k = (book_at s k).log

abbrev pub device_at : State → ℕ → Device
device_at s d = slice_index_or s.devices d (new_device false)

-- the version that device d holds
abbrev pub held : State → ℕ → Version
held s d = record { number = (device_at s d).known; value = (device_at s d).value }

abbrev pub put_device : State → ℕ → Device → State
put_device s d v = record s { devices = slice_set s.devices d v }

abbrev pub put_books : State → List Book → State
put_books s bs = record s { books = bs }
