-- Answers as lines of text.
use Rattle.std.specs.Prelude.{◌≡◌, ℕ, List, [], ◌∷◌, ◌++◌, codes, decimal, String, string_bytes}
use Rattle.record.specs.Codes.{code}
use Rattle.protocol.specs.Codes.{outcome_number}
use Rattle.protocol.specs.declared.answer.Answer.{Answer}
use Rattle.protocol.specs.declared.answer.Answer.TheVariants.{Refused, Done, Attempt, Length, Taken, Holds}

-- each number after one space, and a line feed
abbrev pub spaced : List ℕ → List ℕ
spaced [] = codes "\n"
spaced (n ∷ ns) = codes " " ++ (decimal n ++ spaced ns)

-- the number of a refusal, or 0 and the numbers of the answer
abbrev pub answer_line : Answer → List ℕ
answer_line (Refused e) = decimal (code e) ++ spaced []
answer_line Done = codes "0" ++ spaced []
answer_line (Attempt a) = codes "0" ++ spaced (a ∷ [])
answer_line (Length n) = codes "0" ++ spaced (n ∷ [])
answer_line (Taken n o) = codes "0" ++ spaced (n ∷ outcome_number o ∷ [])
answer_line (Holds v) = codes "0" ++ spaced (v.number ∷ v.value.root ∷ v.value.setup ∷ [])

-- the text has grown by these bytes at its end
abbrev pub Gains : {A : Type 0} → String A → String A → List ℕ → Type 0
Gains old new bytes = string_bytes new ≡ string_bytes old ++ bytes
