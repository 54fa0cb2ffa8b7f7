-- The two parts that the codec's own functions take a record's bytes apart into. No public contract speaks of them.
use Rattle.std.specs.Prelude.{ℕ, ◌+◌, ◌*◌, ◌^◌, cond, List, length, take, drop, Some, None, Option, ◌==◌}
use Rattle.std.specs.Int.Digits.{number_from_digits}
use Rattle.record.specs.Codes.{kind_number}
use Rattle.record.specs.Entry.{Entry}
use Rattle.record.specs.declared.value.Value.{Value}

-- root and setup in a value's twelve bytes
abbrev pub value_in : List ℕ → Option Value
value_in bs = cond (length bs == 12) (Some (record { root = number_from_digits 256 (take 8 bs); setup = number_from_digits 256 (drop 8 bs) })) None

-- kind, attempt, device and version in 32 bits
abbrev pub head_of : Entry → ℕ
head_of e = kind_number e.kind * 2 ^ 30 + e.attempt * 2 ^ 14 + e.device * 2 ^ 10 + e.version
