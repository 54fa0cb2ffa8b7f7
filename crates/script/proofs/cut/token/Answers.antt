use Rattle.std.proofs.Common.{true, false, Some, sym, ap, ◌∙◌}
use Rattle.std.proofs.lemmas.Bool.{eq-eqb, ne_eqb}
use Rattle.script.specs.Parts.{part_of}
use Rattle.script.proofs.Cuts.{found}
use Rattle.script.proofs.cut.token.Goals as goal
use Rattle.script.proofs.cut.token.Goals.{then-index-eq0, else-index-eq0}

pub returns-clause-value : goal.returns-clause-value
returns-clause-value c =
    let k = c.args.index in
    elim c.if-index-eq0.branch [
      | then-index-eq0 w ↦ ap (λ t. Some (part_of t)) w.result-is ∙ found c.args.line.now c.in_ok-place.place true k _ (sym (eq-eqb k 0 w.if-index-eq0.true)) c.before-bytes.ensures c.in_ok-place.ensures.1
      | else-index-eq0 w ↦ ap (λ t. Some (part_of t)) w.result-is ∙ found c.args.line.now c.in_ok-place.place false k _ (sym (ne_eqb k 0 w.if-index-eq0.false)) c.before-bytes.ensures c.in_ok-place.ensures.1
    ]
