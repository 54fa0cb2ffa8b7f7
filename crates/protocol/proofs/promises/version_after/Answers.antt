use Rattle.std.proofs.Common.{rules}
use Rattle.protocol.proofs.History.{one-order}
use Rattle.protocol.proofs.promises.version_after.Goals as goal

pub returns-then-base-ge1023 : goal.returns-then-base-ge1023
returns-then-base-ge1023 c = record { number = search rules; order = one-order }

pub returns-else-base-ge1023 : goal.returns-else-base-ge1023
returns-else-base-ge1023 c = record { number = search rules; order = one-order }
