-- A byte log as a whole: its area, what it means, and what an append makes of the area.
use Rattle.std.specs.Prelude.{ℕ, List}
use Rattle.record.specs.Entry.{Entry}
use Rattle.account.specs.Books.{Book}
use Rattle.storage.specs.Areas.{area_book, area_after}
use Rattle.storage.specs.declared.byte_log.ByteLog.{ByteLog}

abbrev pub area_of : ByteLog → List ℕ
area_of log = log.area.now

abbrev pub log_book : ByteLog → Book
log_book log = area_book (area_of log) log.used

abbrev pub written : ByteLog → Entry → List ℕ
written log e = area_after (area_of log) log.used e
