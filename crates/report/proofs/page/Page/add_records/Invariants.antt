use Rattle.std.proofs.Common.{◌≡◌, ◌++◌, map, drop}
use Rattle.record.specs.Entry.{entry_of}
use Rattle.report.specs.Report.{record_lines}
use Rattle.report.proofs.page.Page.add_records.Given as goal

abbrev pub invariant-loop-place : goal.invariant-loop-place
invariant-loop-place l =
    l.self ++ record_lines l.place (map entry_of (drop l.place l.records))
    ≡ l.initial.self ++ record_lines 0 (map entry_of l.records)
