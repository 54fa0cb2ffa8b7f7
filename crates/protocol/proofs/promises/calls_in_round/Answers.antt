use Rattle.std.proofs.Common.{rules}
use Rattle.protocol.proofs.Ending.{a-round-ends}
use Rattle.protocol.proofs.promises.calls_in_round.Goals as goal

pub returns : goal.returns
returns c = record { count = search rules; answered = a-round-ends }
