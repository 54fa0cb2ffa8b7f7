use Rattle.std.proofs.Common.{refl}
use Rattle.storage.specs.Areas.{area_book}
use Rattle.storage.proofs.byte_log.ByteLog.new.Goals as goal

pub returns : goal.returns
unfolding area_book
returns c = record { book = refl; used = refl; area = refl; name = refl }
