use Rattle.std.proofs.Common.{◌+◌, sym, ◌∙◌, arith}
use Rattle.script.specs.Commands.{field_at}
use Rattle.script.proofs.Digits.{number_is}
use Rattle.script.proofs.Refusing.{stops-narrow, all-read}
use Rattle.script.proofs.command.numbers.Goals as goal

pub returns-in_err-numbers : goal.returns-in_err-numbers
returns-in_err-numbers g c =
    let line = c.args.line.now in
    stops-narrow g.row.N line c.loop-k.k c.count_numbers.result _ c.from_residual.result _ c.from_residual.ensures.1 c.count_numbers.ensures c.if-count_numbers.false c.loop-k-test.true
    (sym c.in_err-numbers.was ∙ number_is 32 (field_at line (c.loop-k.k + 1)) _ (omega arith) c.number.ensures)

pub returns : goal.returns
returns g c =
    all-read g.row.N c.args.line.now c.count_numbers.result c.loop-k.numbers c.count_numbers.ensures c.if-count_numbers.false c.loop-k.invariant.long (λ j h. c.loop-k.invariant.read j (omega arith))
