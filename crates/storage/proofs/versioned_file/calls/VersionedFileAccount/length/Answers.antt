use Rattle.std.proofs.Common.{sym}
use Rattle.std.proofs.lemmas.List.FromFn.{length-map-range_with_len}
use Rattle.storage.specs.Rows.{row_book}
use Rattle.storage.proofs.versioned_file.calls.VersionedFileAccount.length.Goals as goal

pub returns : goal.returns
unfolding row_book
returns c = sym (length-map-range_with_len _ 0 c.args.self.now.used)
