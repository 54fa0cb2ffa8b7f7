-- A versioned file as a whole: its rows, what it means, and what an append makes of the rows.
use Rattle.std.specs.Prelude.{List}
use Rattle.record.specs.Entry.{Entry}
use Rattle.account.specs.Books.{Book}
use Rattle.storage.specs.Rows.{row_book, rows_after}
use Rattle.storage.specs.declared.row.Row.{Row}
use Rattle.storage.specs.declared.versioned_file.VersionedFile.{VersionedFile}

abbrev pub rows_of : VersionedFile → List Row
rows_of file = file.rows.now

abbrev pub file_book : VersionedFile → Book
file_book file = row_book (rows_of file) file.used

abbrev pub filled : VersionedFile → Entry → List Row
filled file e = rows_after (rows_of file) file.used e
