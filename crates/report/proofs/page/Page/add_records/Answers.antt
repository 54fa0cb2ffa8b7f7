use Rattle.std.proofs.Common.{◌++◌, sym, ap, ◌∙◌}
use Rattle.record.specs.Entry.{entry_of}
use Rattle.report.specs.Report.{record_lines}
use Rattle.report.proofs.Steps.{next-entry, last_entry, line-more, line-end}
use Rattle.report.proofs.page.Page.add_records.Goals as goal

pub loop-place-preserved : goal.loop-place-preserved
loop-place-preserved c =
    let out = c.loop-place.self in
    let i = c.loop-place.place in
    let r = c.index-records-place.result in
    line-more i (entry_of r) _ out (c.add_record.new.self) c.in_ok-add_record.ensures
    ∙ ap (λ es. out ++ record_lines i es) (sym (next-entry c.args.records.now i r c.loop-place-test.true c.index-records-place.is))
    ∙ c.loop-place.invariant

pub returns : goal.returns
returns c =
    let out = c.loop-place.self in
    sym (line-end c.loop-place.place out)
    ∙ ap (λ es. out ++ record_lines c.loop-place.place es) (sym (last_entry c.args.records.now c.loop-place.place c.loop-place-test.false))
    ∙ c.loop-place.invariant
