-- Why both kinds keep to the bounds of a book: proofs that the kinds carry, and nothing to believe.
use Rattle.std.specs.Prelude.{ℕ, ◌/◌, ◌≤◌, length}
use Rattle.std.proofs.Common.{arith}
use Rattle.std.proofs.lemmas.List.FromFn.{length-map-range_with_len}
use Rattle.record.specs.Entry.{Entry}
use Rattle.account.specs.Books.{Keeps}
use Rattle.storage.specs.Areas.{area_book, record_at}
use Rattle.storage.specs.ByteLogs.{area_of, log_book}
use Rattle.storage.specs.Places.{placed}
use Rattle.storage.specs.Rows.{row_book}
use Rattle.storage.specs.VersionedFiles.{rows_of, file_book}
use Rattle.storage.specs.declared.byte_log.ByteLog.{ByteLog}
use Rattle.storage.specs.declared.versioned_file.VersionedFile.{VersionedFile}

placed-keeps : (at : ℕ → Entry) (n m : ℕ) → 1 ≤ m → m ≤ 4096 → n ≤ m → Keeps (placed at n m)
placed-keeps at n m low high fit =
    record { some = low; within = omega (arith, length-map-range_with_len at 0 n); fits = omega arith }

pub log-keeps : (log : ByteLog) → Keeps (log_book log)
unfolding area_book
log-keeps log =
    placed-keeps (record_at (area_of log)) log.used (length (area_of log) / 16) (omega arith) (omega arith) (omega arith)

pub file-keeps : (file : VersionedFile) → Keeps (file_book file)
unfolding row_book
file-keeps file = placed-keeps _ file.used (length (rows_of file)) file.size.0 file.size.1 file.within
