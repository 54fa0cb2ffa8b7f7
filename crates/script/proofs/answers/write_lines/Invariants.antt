use Rattle.std.proofs.Common.{◌≡◌, ◌++◌, drop, string_bytes}
use Rattle.std.specs.Slice.Iter.{iter_rest}
use Rattle.script.specs.Script.{shown}
use Rattle.script.proofs.answers.write_lines.Given as goal

-- the lines so far, and those to come
abbrev pub invariant-loop-line : goal.invariant-loop-line
invariant-loop-line l =
    string_bytes l.out ++ shown (drop l.line-index l.lines) (iter_rest l.left) ≡ string_bytes l.initial.out ++ shown l.lines l.answers
