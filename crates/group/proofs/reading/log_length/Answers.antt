use Rattle.std.proofs.Common.{ap, ◌∙◌}
use Rattle.std.specs.Result.{result_unwrap_or}
use Rattle.group.proofs.Logs.{log-long}
use Rattle.group.proofs.reading.log_length.Goals as goal

pub returns : goal.returns
returns g c = c.unwrap_or.ensures ∙ ap (λ r. result_unwrap_or r 0) c.length.ensures ∙ log-long (g.A.Accounts.books c.args.accounts.now) c.args.k
