use Rattle.std.proofs.Common.{◌≡◌, ℕ, ◌+◌, ◌<◌, length, get_or, Ok}
use Rattle.script.specs.Commands.{field_at}
use Rattle.script.specs.Numerals.{number_of}
use Rattle.script.proofs.command.numbers.Given as goal

-- the numbers so far
abbrev pub invariant-loop-k : goal.invariant-loop-k
invariant-loop-k g l = record {
  long : length l.numbers ≡ g.row.N;
  read : (j : ℕ) → j < l.k → Ok (get_or l.numbers j 0) ≡ number_of 32 (field_at l.line (j + 1));
}
