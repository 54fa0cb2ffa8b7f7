-- How a number is written, and which number it is.
use Rattle.std.specs.Prelude.{ℕ, ◌+◌, ◌-◌, ◌*◌, ◌^◌, Bool, true, not, ◌&&◌, List, [], ◌∷◌, length, Result, ◌==◌, nat_le, nat_lt, slice_index}
use Rattle.record.specs.Checks.{when, unless}
use Rattle.record.specs.declared.refusal.Refusal.{Refusal}
use Rattle.record.specs.declared.refusal.Refusal.TheVariants.{BadNumber}

-- '0' to '9'
abbrev pub is_digit : ℕ → Bool
is_digit c = nat_le 48 c && nat_le c 57

unfoldable pub is_digits : List ℕ → Bool
is_digits [] = true
is_digits (c ∷ cs) = is_digit c && is_digits cs

-- a zero stands in front of more
abbrev pub has_leading_zero : List ℕ → Bool
has_leading_zero f = slice_index f 0 == 48 && nat_lt 1 (length f)

-- 1 to 20 digits without a leading zero, except 0 itself
abbrev pub is_numeral : List ℕ → Bool
is_numeral f = nat_le 1 (length f) && (nat_le (length f) 20 && (not (has_leading_zero f) && is_digits f))

-- digits after what n stands for
unfoldable pub read_on : ℕ → List ℕ → ℕ
read_on n [] = n
read_on n (c ∷ cs) = read_on (n * 10 + (c - 48)) cs

abbrev pub value_of : List ℕ → ℕ
value_of f = read_on 0 f

-- a field writes a number of so many bits
abbrev pub fits : ℕ → List ℕ → Bool
fits bits f = is_numeral f && nat_lt (value_of f) (2 ^ bits)

abbrev pub number_of : ℕ → List ℕ → Result ℕ Refusal
number_of bits f = unless (when (not (fits bits f)) BadNumber ∷ []) (value_of f)
