use Rattle.std.proofs.Common.{◌≡◌, suc, ◌+◌, ◌-◌, ◌++◌, map, sym, ap, ◌∙◌, Some, None, cond, is_some, append-nil, add-zero, arith}
use Rattle.record.specs.Entry.{entry_of}
use Rattle.report.specs.Report.{version_line, version_lines, version_count}
use Rattle.report.proofs.Steps.{versions-more, counted-more, occurrence-is, versions-end, counted-end, one_at_most}
use Rattle.report.proofs.page.Page.add_versions.Goals as goal
use Rattle.report.proofs.page.Page.add_versions.Goals.{in-Some+in_ok-add_view, in_default}

pub loop-version-preserved : goal.loop-version-preserved
loop-version-preserved c =
    let w = c.loop-version.version in
    let es = map entry_of c.args.records.now in
    let out = c.loop-version.self in
    let n : 1024 - w ≡ suc (1024 - (w + 1)) = omega (arith, c.loop-version-test.true) in
    let inv = c.loop-version.invariant in
    let is = c.survey.ensures in
    let line : (c.match-survey.self ≡ out ++ version_line w c.survey.result) × (c.match-survey.versions ≡ c.loop-version.versions + cond (is_some c.survey.result) 1 0) =
    elim c.match-survey.branch [
      | in-Some+in_ok-add_view x ↦
          let seen : c.survey.result ≡ Some x.in-Some.view = x.in-Some.is in
          (x.self-is ∙ x.in_ok-add_view.ensures ∙ ap (λ o. out ++ version_line w o) (sym seen), x.versions-is ∙ ap (λ o. c.loop-version.versions + cond (is_some o) 1 0) (sym seen))
      | in_default x ↦
          let seen : c.survey.result ≡ None = x.in_default.is in
          (x.self-is ∙ sym (append-nil out) ∙ ap (λ o. out ++ version_line w o) (sym seen), x.versions-is ∙ sym (add-zero c.loop-version.versions) ∙ ap (λ o. c.loop-version.versions + cond (is_some o) 1 0) (sym seen))
    ] in (
      versions-more (1024 - (w + 1)) w es out (c.match-survey.self) (line.0 ∙ ap (λ o. out ++ version_line w o) is)
          ∙ ap (λ k. out ++ version_lines k w es) (sym n)
          ∙ inv.0,
      counted-more (1024 - (w + 1)) w es c.loop-version.versions _ (line.1 ∙ ap (λ k. c.loop-version.versions + k) (occurrence-is w es c.survey.result is))
          ∙ ap (λ k. c.loop-version.versions + version_count k w es) (sym n)
          ∙ inv.1,
      omega (arith, inv.2, line.1, one_at_most c.survey.result),
    )

pub returns : goal.returns
returns c =
    let w = c.loop-version.version in
    let es = map entry_of c.args.records.now in
    let out = c.loop-version.self in
    let n : 0 ≡ 1024 - w = omega (arith, c.loop-version-test.false) in
    record {
      text = sym (versions-end w es out) ∙ ap (λ k. out ++ version_lines k w es) n ∙ c.loop-version.invariant.0;
      count = sym (counted-end w es c.loop-version.versions) ∙ ap (λ k. c.loop-version.versions + version_count k w es) n ∙ c.loop-version.invariant.1;
    }
