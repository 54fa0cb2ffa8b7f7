use Rattle.std.proofs.Common.{◌≤◌, cond, length, sum_by, rules, tests, ap, arith}
use Rattle.std.proofs.lemmas.Iterator.{YieldsList-from_slice, YieldsList-from_map}
use Rattle.std.proofs.lemmas.Iterator.Consumers.{fits_by_from_yields_list}
use Rattle.std.proofs.lemmas.List.Sums.{count_by-le-length}
use Rattle.script.proofs.Cuts.{space, numbers-are}
use Rattle.script.proofs.cut.count_numbers.Goals as goal

pub sum-requires-clause-fits : goal.sum-requires-clause-fits
sum-requires-clause-fits c =
    let line = c.args.line.now in
    let few : sum_by (λ b. cond (space b) 1 0) line ≤ length line = count_by-le-length space line in
    fits_by_from_yields_list (λ b. cond (space b) 1 0) line c.map.result _
    (YieldsList-from_map _ (λ b. cond (space b) 1 0) (YieldsList-from_slice line cc) c.map.ensures.closure (λ x r q k. search (rules, tests)))
    (omega (arith, ap length c.iter.ensures.rest, c.iter.ensures.bound))

pub returns : goal.returns
returns c = rw numbers-are (search rules)
