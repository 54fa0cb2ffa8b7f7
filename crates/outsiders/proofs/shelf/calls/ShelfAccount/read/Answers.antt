use Rattle.std.proofs.Common.{arith}
use Rattle.outsiders.proofs.Shelved.{log-past}
use Rattle.outsiders.proofs.shelf.calls.ShelfAccount.read.Goals as goal

pub returns-then-place-self : goal.returns-then-place-self
returns-then-place-self c = log-past c.args.self.now.rows c.args.self.now.used (omega arith) c.args.place c.if-place-self.true
