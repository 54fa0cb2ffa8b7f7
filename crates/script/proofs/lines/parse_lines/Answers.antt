use Rattle.std.proofs.Common.{rules, tests}
use Rattle.std.proofs.lemmas.Iterator.{YieldsList-from_map, items_from_collect}
use Rattle.script.specs.Commands.{parsed_line}
use Rattle.script.proofs.Cuts.{YieldsList-from_lines}
use Rattle.script.proofs.lines.parse_lines.Goals as goal

pub returns : goal.returns
returns c =
    items_from_collect _ c.collect.ensures.ran
    (YieldsList-from_map _ parsed_line (YieldsList-from_lines _ c.args.input.now (cc) (cc) (λ x b q k. search (rules, tests))) c.map.ensures.closure (λ x r q k. search (rules, tests)))
