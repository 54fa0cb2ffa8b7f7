use Rattle.std.proofs.Common.{rules}
use Rattle.script.proofs.Cuts.{field-read}
use Rattle.script.proofs.command.field.Goals as goal

pub returns : goal.returns
returns c = field-read c.args.line.now c.args.index c.token.result _ c.token.ensures.value c.map_or.ensures (λ e. search rules) (λ t q. search rules)
