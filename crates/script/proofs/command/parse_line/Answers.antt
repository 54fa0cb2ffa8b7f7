use Rattle.std.proofs.Common.{sym, refl, ◌∙◌, arith}
use Rattle.script.specs.Commands.{parsed_line}
use Rattle.script.proofs.Refusing.{refused_by}
use Rattle.script.proofs.command.parse_line.Goals as goal

pub returns-in_err-device-in-74 : goal.returns-in_err-device-in-74
returns-in_err-device-in-74 c =
    refused_by c.args.line.now 74 1 _ refl (grind arith) _ _ _ c.numbers.ensures c.in_err-device-in-74.was c.from_residual.ensures.1

pub returns-in_err-device-in-76 : goal.returns-in_err-device-in-76
returns-in_err-device-in-76 c =
    refused_by c.args.line.now 76 3 _ refl (grind arith) _ _ _ c.numbers-in-76.ensures c.in_err-device-in-76.was c.from_residual-in_err-device-in-76.ensures.1

pub returns-in_err-device-in-83 : goal.returns-in_err-device-in-83
returns-in_err-device-in-83 c =
    refused_by c.args.line.now 83 2 _ refl (grind arith) _ _ _ c.numbers-in-83.ensures c.in_err-device-in-83.was c.from_residual-in_err-device-in-83.ensures.1

pub returns-in_err-device-in-82 : goal.returns-in_err-device-in-82
returns-in_err-device-in-82 c =
    refused_by c.args.line.now 82 2 _ refl (grind arith) _ _ _ c.numbers-in-82.ensures c.in_err-device-in-82.was c.from_residual-in_err-device-in-82.ensures.1

pub returns-in_err-device-in-65 : goal.returns-in_err-device-in-65
returns-in_err-device-in-65 c =
    refused_by c.args.line.now 65 1 _ refl (grind arith) _ _ _ c.numbers-in-65.ensures c.in_err-device-in-65.was c.from_residual-in_err-device-in-65.ensures.1

pub returns-in_err-device-in-88 : goal.returns-in_err-device-in-88
returns-in_err-device-in-88 c =
    refused_by c.args.line.now 88 1 _ refl (grind arith) _ _ _ c.numbers-in-88.ensures c.in_err-device-in-88.was c.from_residual-in_err-device-in-88.ensures.1

pub returns-in_err-device-in-75 : goal.returns-in_err-device-in-75
returns-in_err-device-in-75 c =
    refused_by c.args.line.now 75 1 _ refl (grind arith) _ _ _ c.numbers-in-75.ensures c.in_err-device-in-75.was c.from_residual-in_err-device-in-75.ensures.1

-- this one is close to the limits of `grind` where it lists more
pub returns-in_ok-device-in-76 : goal.returns-in_ok-device-in-76
unfolding parsed_line
returns-in_ok-device-in-76 c = let read = sym c.in_ok-device-in-76.was ∙ c.numbers-in-76.ensures in grind arith
