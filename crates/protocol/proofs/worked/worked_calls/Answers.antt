-- By evaluation: the definitions compute.
use Rattle.std.proofs.Common.{refl}
use Rattle.journal.specs.Log.{tell}
use Rattle.protocol.specs.Deciding.{agreed_value, any_above, decision}
use Rattle.protocol.specs.Runs.{step, runs}
use Rattle.protocol.proofs.worked.worked_calls.Goals as goal

pub returns : goal.returns
unfolding tell agreed_value any_above decision step runs
returns c = record { calls = refl; answers = refl }
