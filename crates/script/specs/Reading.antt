-- What the steps of reading numbers say on their way; no other definition rests on these.
use Rattle.std.specs.Prelude.{◌≡◌, ℕ, ◌+◌, not, ◌&&◌, Bool, List, length, map, replicate, IsTrue, Ok, Err, Result, MatchResult, nat_le}
use Rattle.std.specs.List.{range_with_len}
use Rattle.record.specs.Checks.{unless}
use Rattle.record.specs.declared.refusal.Refusal.{Refusal}
use Rattle.record.specs.declared.refusal.Refusal.TheVariants.{BadNumber}
use Rattle.script.specs.Commands.{number_at, number_checks}
use Rattle.script.specs.Numerals.{has_leading_zero, value_of, fits}

-- 1 to 20 bytes, and no zero in front of more
abbrev pub is_plain : List ℕ → Bool
is_plain f = nat_le 1 (length f) && (nat_le (length f) 20 && not (has_leading_zero f))

-- a number of 64 bits becomes what gives says of it, and anything else is refused
abbrev pub Reads : {T E : Type 0} → (ℕ → Result T E → Type 0) → List ℕ → Result T Refusal → Type 0
Reads {T} {E} gives f r =
    MatchResult r
    (λ n. IsTrue (fits 64 f) × gives (value_of f) (Ok n))
    (λ e. (e ≡ BadNumber) × (IsTrue (fits 64 f) → (x : E) × gives (value_of f) (Err x)))

-- the n numbers of a line, of 32 bits each
abbrev pub numbers_of : ℕ → List ℕ → Result (List ℕ) Refusal
numbers_of n line =
    unless (number_checks (replicate n 32) line) (map (λ k. number_at line (k + 1)) (range_with_len 0 n))
