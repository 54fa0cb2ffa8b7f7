use Rattle.std.proofs.Common.{[], ◌∷◌, sym, ◌∙◌, arith}
use Rattle.script.specs.Commands.{field_at}
use Rattle.script.proofs.Digits.{number_is}
use Rattle.script.proofs.Refusing.{stops}
use Rattle.script.proofs.command.propose.Goals as goal

pub returns-in_err-number : goal.returns-in_err-number
returns-in_err-number c =
    stops (32 ∷ 32 ∷ 64 ∷ 32 ∷ []) c.args.line.now 0 _ _ _ _ c.from_residual.ensures.1 c.count_numbers.ensures c.if-count_numbers-ne4.false (omega arith)
    (sym c.in_err-number.was ∙ number_is 32 (field_at c.args.line.now 1) _ (omega arith) c.number.ensures)

pub returns-in_err-number-2 : goal.returns-in_err-number-2
returns-in_err-number-2 c =
    stops (32 ∷ 32 ∷ 64 ∷ 32 ∷ []) c.args.line.now 1 _ _ _ _ c.from_residual-in_err-number-2.ensures.1 c.count_numbers.ensures c.if-count_numbers-ne4.false (omega arith)
    (sym c.in_err-number-2.was ∙ number_is 32 (field_at c.args.line.now 2) _ (omega arith) c.number-2.ensures)

pub returns-in_err-number-3 : goal.returns-in_err-number-3
returns-in_err-number-3 c =
    stops (32 ∷ 32 ∷ 64 ∷ 32 ∷ []) c.args.line.now 2 _ _ _ _ c.from_residual-in_err-number-3.ensures.1 c.count_numbers.ensures c.if-count_numbers-ne4.false (omega arith)
    (sym c.in_err-number-3.was ∙ number_is 64 (field_at c.args.line.now 3) _ (omega arith) c.number-3.ensures)

pub returns-in_err-number-4 : goal.returns-in_err-number-4
returns-in_err-number-4 c =
    stops (32 ∷ 32 ∷ 64 ∷ 32 ∷ []) c.args.line.now 3 _ _ _ _ c.from_residual-in_err-number-4.ensures.1 c.count_numbers.ensures c.if-count_numbers-ne4.false (omega arith)
    (sym c.in_err-number-4.was ∙ number_is 32 (field_at c.args.line.now 4) _ (omega arith) c.number-4.ensures)
