use Rattle.std.proofs.Common.{◌+◌, ◌-◌, map, drop, take, length, Some, sym, ap, ◌∙◌}
use Rattle.std.specs.Option.{option_map}
use Rattle.record.specs.Entry.{entry_of}
use Rattle.journal.specs.Log.{unread, view}
use Rattle.report.proofs.Steps.{next-entry, last_entry, surveyed-is, rest-is}
use Rattle.report.proofs.report.survey.Goals as goal

pub returns-in_err-first : goal.returns-in_err-first
returns-in_err-first c =
    c.from_residual.ensures ∙ (ap (option_map _) c.in_err-first.ensures ∙ sym (surveyed-is c.args.version c.args.records.now))

pub loop-r-init : goal.loop-r-init
loop-r-init c =
    ap (view c.args.version c.new-view.result) (ap (map entry_of) (rest-is c.args.records.now c.in_ok-first.first))
    ∙ ap (λ v. view c.args.version v (map entry_of (drop c.in_ok-first.first c.args.records.now))) c.new-view.ensures

pub loop-r-preserved : goal.loop-r-preserved
unfolding view
loop-r-preserved c =
    let w = c.args.version in
    let n = c.in_ok-first.first in
    let rest = take (length c.args.records.now - n) (drop n c.args.records.now) in
    let i = c.loop-r.r-index in
    let next = next-entry rest i c.r-item.result c.loop-r-test.true c.r-item.is in
    ap (λ v. view w v (map entry_of (drop (i + 1) rest))) c.tell.ensures ∙ ap (view w c.loop-r.view) (sym next) ∙ c.loop-r.invariant

pub returns : goal.returns
unfolding view
returns c =
    let w = c.args.version in
    let n = c.in_ok-first.first in
    let rest = take (length c.args.records.now - n) (drop n c.args.records.now) in
    ap (λ v. Some v) (ap (view w c.loop-r.view) (sym (last_entry rest c.loop-r.r-index c.loop-r-test.false)) ∙ c.loop-r.invariant)
    ∙ (ap (option_map (λ i. view w unread (map entry_of (drop i c.args.records.now)))) c.in_ok-first.ensures ∙ sym (surveyed-is w c.args.records.now))
