use Rattle.std.proofs.Common.{◌≡◌, ◌+◌, ◌-◌, ◌≤◌, ◌++◌, map}
use Rattle.record.specs.Entry.{entry_of}
use Rattle.report.specs.Report.{version_lines, version_count}
use Rattle.report.proofs.page.Page.add_versions.Given as goal

abbrev pub invariant-loop-version : goal.invariant-loop-version
invariant-loop-version l =
    let es = map entry_of l.records in
    (l.self ++ version_lines (1024 - l.version) l.version es ≡ l.initial.self ++ version_lines 1023 1 es)
    × (l.versions + version_count (1024 - l.version) l.version es ≡ version_count 1023 1 es)
    × (l.versions ≤ l.version)
