use Rattle.std.proofs.Common.{refl}
use Rattle.storage.specs.Rows.{row_book}
use Rattle.storage.proofs.versioned_file.VersionedFile.new.Goals as goal

pub returns : goal.returns
unfolding row_book
returns c = record { book = refl; used = refl; rows = refl; name = refl }
