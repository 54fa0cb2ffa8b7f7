use Rattle.std.proofs.Common.{◌≡◌, map, drop}
use Rattle.record.specs.Entry.{entry_of}
use Rattle.journal.specs.Log.{unread, view}
use Rattle.report.proofs.report.survey.Given as goal

abbrev pub invariant-loop-r : goal.invariant-loop-r
invariant-loop-r l = view l.version l.view (map entry_of (drop l.r-index l.rest)) ≡ view l.version unread (map entry_of (drop l.first l.records))
