use Rattle.std.proofs.Common.{◌≡◌, ◌==◌, ◌-◌, ◌≤◌, length, drop}
use Rattle.std.specs.List.{slice_get}
use Rattle.script.specs.Parts.{fields_of, parts_from, parts_of}
use Rattle.script.proofs.cut.start.Given as goal

-- the fields that are still to come
abbrev pub invariant-loop-passed : goal.invariant-loop-passed
invariant-loop-passed l =
    (l.place ≤ length l.line)
    × (slice_get (parts_from (l._passed == 0) l.place (fields_of (drop l.place l.line))) (l.index - l._passed) ≡ slice_get (parts_of l.line) l.index)
