use Rattle.std.proofs.Common.{◌≡◌, ◌^◌, ◌<◌, drop}
use Rattle.script.specs.Numerals.{is_digits, read_on}
use Rattle.script.proofs.numeral.value.Given as goal

-- the digits so far, and those to come
abbrev pub invariant-loop-b : goal.invariant-loop-b
invariant-loop-b l = record {
  value : read_on l.value (drop l.b-index l.field) ≡ read_on 0 l.field;
  digits : is_digits (drop l.b-index l.field) ≡ is_digits l.field;
  small : l.value < 2 ^ 64;
}
